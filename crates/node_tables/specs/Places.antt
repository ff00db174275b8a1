-- Items by their places, in the order of arrival, and the order of their encodings.
use Rattle.std.specs.List.Sorted.{IsBinarySearchResult}
use Rattle.std.specs.List.{Contains}
use Rattle.std.specs.Prelude.{◌≡◌, ℕ, Bool, true, false, List, Option, Some, None, Err, slice_get, map, ◌==◌, ◌≤◌, length, if◌then◌else◌, [], ◌∷◌}
use Rattle.std.specs.declared.cmp.Ordering.TheVariants.{Greater}
use Rattle.std.specs.declared.cmp.Ordering.{Ordering}
use Rattle.item_forms.specs.Messages.{Message}
use Rattle.item_forms.specs.Groups.{Acknowledgements, IsInGroup}
use Rattle.item_forms.specs.Pieces.{Piece, by_bytes}
use Rattle.evidence_item.specs.Checking.{Checked}
use Rattle.evidence_set.specs.Challenges.{is_against}
use Rattle.kept_evidence.specs.Kept.{IsAscending, Keeps}
use Rattle.kept_evidence.specs.Telling.{is_unanswered}
use Rattle.node_tables.specs.declared.table.Table.{Table}

-- ---- the order of encodings

-- The places name just these items, in this order.
abbrev pub ArePlacesOf : List Checked → List ℕ → List Checked → Type 0
ArePlacesOf items places kept = map (slice_get items) places ≡ map Some kept

-- The places ascend by the encodings of their items.
pub record AscendBySpelling (items : List Checked) (places : List ℕ) : Type 0 where
  pub named : List Checked
  pub names : ArePlacesOf items places named
  pub ascending : IsAscending named

-- The places are those of all items, in the order of the items' encodings.
pub record IsOrder (items : List Checked) (order : List ℕ) : Type 0 where
  pub kept : List Checked
  pub places : ArePlacesOf items order kept
  pub ascending : IsAscending kept
  pub covers : (c : Checked) → Contains items c → Contains kept c

-- The item at a place, if there is one.
abbrev pub named_item : Option Checked → List Piece
named_item None = []
named_item (Some c) = c.item ∷ []

-- How the item at a place compares with another. If there is none, the place stands above all items.
abbrev pub item_order_by : Option Checked → Piece → Ordering
item_order_by None x = Greater
item_order_by (Some c) x = by_bytes c.item x

-- The place in the order where an item would stand that is not there.
pub record IsGapAt (items : List Checked) (order : List ℕ) (x : Piece) (i : ℕ) : Type 0 where
  pub inside : i ≤ length order
  pub searched : IsBinarySearchResult (λ j. item_order_by (slice_get items j) x) order (Err i)
  pub absent : Keeps items x → ⊥

-- ---- challenges

-- Some item acknowledges a message of this sender, receiver and number.
abbrev pub IsAcknowledged : List Checked → Message → Type 0
IsAcknowledged items m = (c : Checked) × Contains items c × IsInGroup (Acknowledgements m) c.item.fields

-- The item at a place is a challenge against node j.
abbrev pub IsAgainstAt : List Checked → ℕ → ℕ → Type 0
IsAgainstAt items j i = (c : Checked) × (slice_get items i ≡ Some c) × (is_against j c.item.fields ≡ true)

-- The item at a place is a challenge against node j, and no item answers it.
abbrev pub IsOpenAt : List Checked → ℕ → ℕ → Type 0
IsOpenAt items j i = (c : Checked) × (slice_get items i ≡ Some c) × (is_unanswered items j c.item.fields ≡ true)

-- The table has room for a segment and for a challenge.
pub record HasBodyRoom (t : Table) : Type 0 where
  pub spans : 1 ≤ t.spans.room
  pub unanswered : 1 ≤ t.unanswered.room

-- The node is the subject.
abbrev pub is_subject : ℕ → Option ℕ → Bool
is_subject j None = false
is_subject j (Some k) = k == j

-- How many bodies an item with this subject brings to the table of node j: one or none. A body is a segment, a challenge or an
-- acknowledgement.
abbrev pub bodies : Option ℕ → ℕ → ℕ
bodies o j = if is_subject j o then 1 else 0

-- The room that a table has for segments.
abbrev pub span_room : Table → ℕ
span_room t = t.spans.room

-- The room that a table has for challenges.
abbrev pub open_room : Table → ℕ
open_room t = t.unanswered.room
