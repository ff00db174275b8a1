-- An item as long as there is one. Its texts stay folded: they have half a billion bytes.
use Rattle.std.proofs.Common.{◌≡◌, ℕ, zero, suc, ◌+◌, ◌*◌, ◌≤◌, List, ◌∷◌, length, replicate, arith, ap, ◌∙◌, length-append}
use Rattle.std.specs.List.{flat_map}
use Rattle.std.proofs.lemmas.List.{length-replicate}
use Rattle.std.proofs.lemmas.List.Concat.{flat_map-cons}
use Rattle.std.proofs.lemmas.List.Elements.{All-replicate}
use Rattle.log_chain.specs.declared.entry.Entry.{Entry}
use Rattle.log_chain.specs.declared.limits.TheConstants.{LONGEST_CONTENT, MOST_ENTRIES}
use Rattle.authenticators.specs.declared.signature.TheConstants.{LONGEST_SIGNATURE_TEXT}
use Rattle.outcome.specs.Bytes.{IsBytes}
use Rattle.outcome.proofs.ByteLists.{IsBytes-cons, IsBytes-none}
use Rattle.item_forms.specs.declared.forms.Fields.TheVariants as form
use Rattle.item_forms.specs.declared.forms.Segment.{Segment}
use Rattle.item_forms.specs.declared.limits.TheConstants.{LONGEST_ITEM}
use Rattle.item_forms.specs.Pieces.{Piece}
use Rattle.item_forms.specs.Spelling.{FitsEntry, FitsSegment, entry_spelling, spelling}
use Rattle.item_forms.proofs.SpellingLengths.{entry_length, segment_length}

-- bytes, all of them 0
zeros : ℕ → List ℕ
zeros n = replicate n 0

zeros_length : (n : ℕ) → length (zeros n) ≡ n
unfolding zeros
zeros_length n = length-replicate n 0

zeros_fit : (n : ℕ) → IsBytes (zeros n)
unfolding zeros
zeros_fit zero = IsBytes-none
zeros_fit (suc n) = IsBytes-cons 0 (replicate n 0) (omega arith) (zeros_fit n)

-- an entry with a content of m bytes, and a segment with k of them and a signature of n bytes
entry : ℕ → Entry
entry m = record { seq = 0; kind = 0; content = zeros m }

entry_long : (m : ℕ) → length (entry_spelling (entry m)) ≡ 13 + m
unfolding entry
entry_long m = omega (arith, entry_length (record { seq = 0; kind = 0; content = zeros m }), zeros_length m)

entry_fits : (m : ℕ) → m ≤ LONGEST_CONTENT → FitsEntry (entry m)
unfolding entry
entry_fits m h = record { seq = omega arith; kind = omega arith; content = record { each = zeros_fit m; count = omega (arith, zeros_length m) } }

entries_long : (k m : ℕ) → length (flat_map entry_spelling (replicate k (entry m))) ≡ k * (13 + m)
entries_long zero m = omega arith
entries_long (suc k) m =
    let one : length (flat_map entry_spelling (entry m ∷ replicate k (entry m))) ≡ length (entry_spelling (entry m)) + length (flat_map entry_spelling (replicate k (entry m))) =
    ap length (flat_map-cons entry_spelling (entry m) (replicate k (entry m))) ∙ length-append (entry_spelling (entry m)) (flat_map entry_spelling (replicate k (entry m))) in
    omega (arith, one, entry_long m, entries_long k m)

segment : ℕ → ℕ → ℕ → Segment
segment k m n = record { node = 0; prev = zeros 32; entries = replicate k (entry m); sig = zeros n }

segment_fits : (k m n : ℕ) → k ≤ MOST_ENTRIES → m ≤ LONGEST_CONTENT → n ≤ LONGEST_SIGNATURE_TEXT → FitsSegment (segment k m n)
unfolding segment
segment_fits k m n a b c = record {
  node = omega arith;
  prev = record { each = zeros_fit 32; count = zeros_length 32 };
  entries = record { each = All-replicate FitsEntry k (entry m) (entry_fits m b); count = omega (arith, length-replicate k (entry m)) };
  sig = record { each = zeros_fit n; count = omega (arith, zeros_length n) };
}

segment_long : (k m n : ℕ) → FitsSegment (segment k m n) → length (spelling (form.Segment (segment k m n))) ≡ 45 + k * (13 + m) + n
unfolding segment
segment_long k m n fits =
    omega (arith, segment_length (record { node = 0; prev = zeros 32; entries = replicate k (entry m); sig = zeros n }) fits, entries_long k m, zeros_length n)

pub longest_item : (a : Piece) × (length (spelling a.fields) ≡ LONGEST_ITEM)
longest_item =
    let fits = segment_fits MOST_ENTRIES LONGEST_CONTENT LONGEST_SIGNATURE_TEXT (omega arith) (omega arith) (omega arith) in
    (record { fields = form.Segment (segment MOST_ENTRIES LONGEST_CONTENT LONGEST_SIGNATURE_TEXT); fits = fits }, segment_long MOST_ENTRIES LONGEST_CONTENT LONGEST_SIGNATURE_TEXT fits)
