-- Where segments stand in the order of items. They stand field by field as their encodings stand byte by byte.
use Rattle.std.specs.Prelude.{◌≡◌, ◌≢◌, List, length}
use Rattle.std.specs.declared.cmp.Ordering.{Ordering}
use Rattle.std.specs.Ordering.{nat_cmp, ordering_then}
use Rattle.std.specs.Cmp.Lexicographic.{slice_cmp}
use Rattle.log_chain.specs.declared.entry.Entry.{Entry}
use Rattle.item_forms.specs.declared.forms.Fields.TheVariants as form
use Rattle.item_forms.specs.declared.forms.Segment.{Segment}
use Rattle.item_forms.specs.Groups.{block_order, text_order}
use Rattle.item_forms.specs.Pieces.{Piece, by_bytes}
use Rattle.item_forms.specs.Spelling.{tag_of}

-- The order of entries: by number, then kind, then content.
abbrev pub entry_order : Entry → Entry → Ordering
entry_order a b = ordering_then (nat_cmp a.seq b.seq) (ordering_then (nat_cmp a.kind b.kind) (text_order a.content b.content))

-- The order of lists with their counts in front: the list with fewer parts first, and lists of one length part by part.
abbrev pub counted_order : {A : Type 0} → (A → A → Ordering) → List A → List A → Ordering
counted_order order a b = ordering_then (nat_cmp (length a) (length b)) (slice_cmp order a b)

-- The order of segments: by node, then the hash before the first entry, then the entries, then the signature.
abbrev pub segment_order : Segment → Segment → Ordering
segment_order a b = ordering_then (nat_cmp a.node b.node) (ordering_then (block_order a.prev b.prev) (ordering_then (counted_order entry_order a.entries b.entries) (text_order a.sig b.sig)))

-- Two segments stand in the order of items as their fields do. Items of two forms stand as their tags do. `laws` proves it.
pub record SegmentsAreOrdered : Type 0 where
  pub fields : (x y : Piece) (s t : Segment) → x.fields ≡ form.Segment s → y.fields ≡ form.Segment t → by_bytes x y ≡ segment_order s t
  pub tags : (x y : Piece) → tag_of x.fields ≢ tag_of y.fields → by_bytes x y ≡ nat_cmp (tag_of x.fields) (tag_of y.fields)
