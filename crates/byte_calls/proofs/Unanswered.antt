-- The challenge at a place of a list of lent items.
use Rattle.std.proofs.Common.{◌≡◌, ◌∙◌, ℕ, List, Some, None, ap, map, option_map, slice_get}
use Rattle.std.proofs.lemmas.Option.{slice_get-map}
use Rattle.item_forms.specs.Pieces.{Piece}
use Rattle.item_forms.specs.Spelling.{spelling}
use Rattle.evidence.specs.Contents.{Contents}
use Rattle.byte_calls.specs.Stores.{AreFewer, AreUnanswered, IsUnansweredAt}

pub found_at : {A : Type 0} (xs : List A) (x : A) (f : A → Piece) (s : Contents) (node place : ℕ) (text : List ℕ) → AreUnanswered s node (map f xs) → slice_get xs place ≡ Some x → text ≡ spelling (f x).fields → IsUnansweredAt s node place text
found_at xs x f s node place text are there spelled = record { all = map f xs; challenge = f x; are = are; there = slice_get-map f xs place ∙ ap (option_map f) there; spelled = spelled }

pub found_past : {A : Type 0} (xs : List A) (f : A → Piece) (s : Contents) (node place : ℕ) → AreUnanswered s node (map f xs) → slice_get xs place ≡ None → AreFewer s node place
found_past xs f s node place are past = record { all = map f xs; are = are; past = slice_get-map f xs place ∙ ap (option_map f) past }
