-- Lists that are worked out in parts, and what is known of items before they are checked.
use Rattle.std.specs.Prelude.{◌<◌, ℕ, List, [], ◌∷◌, ◌++◌, Result, Ok, Err, length, slice_index_or}
use Rattle.std.specs.declared.alloc.AllocError.{AllocError}
use Rattle.std.specs.declared.vec.Vec.{Vec}
use Rattle.std.specs.declared.alloc.Global.{Global}
use Rattle.authenticators.specs.Directory.{Listing}
use Rattle.item_forms.specs.Pieces.{Piece}
use Rattle.evidence_item.specs.declared.examining.Examined.{Examined}
use Rattle.evidence_item.specs.Examining.{IsExamined}

-- Each element of the list is true knowledge of the item at the same place. The list may be shorter than that of the items.
abbrev pub AreKnown : Listing → List Piece → List Examined → Type 0
AreKnown ds items all = (n : ℕ) (x : Piece) (e : Examined) → n < length all → IsExamined ds (slice_index_or items n x).fields (slice_index_or all n e)

-- A part of a list, or no memory for it.
abbrev pub Part : Type 0 → Type 0
Part T = Result (Vec T Global) AllocError

-- All parts are there.
abbrev pub AllWhole : {T : Type 0} → List (Part T) → Type 0
AllWhole [] = Unit {0}
AllWhole (Ok v ∷ ps) = AllWhole ps
AllWhole (Err e ∷ ps) = ⊥

-- The elements of all parts that are there, one part after the other.
abbrev pub items_of : {T : Type 0} → List (Part T) → List T
items_of [] = []
items_of (Ok v ∷ ps) = v.items ++ items_of ps
items_of (Err e ∷ ps) = items_of ps
