-- Answers that are written to their places.
use Rattle.std.specs.Prelude.{◌≡◌, ◌<◌, ℕ, true, List, [], ◌∷◌, Result, Err, length, slice_index_or, slice_set}
use Rattle.std.specs.List.{All, Contains}
use Rattle.authenticators.specs.Directory.{Listing}
use Rattle.replay_verifier.specs.Meaning.{Meaning}
use Rattle.item_forms.specs.Pieces.{Piece}
use Rattle.evidence_item.specs.declared.fault.ItemFault.{ItemFault}
use Rattle.evidence_item.specs.declared.fault.ItemFault.TheVariants as fault
use Rattle.evidence_item.specs.Checking.{Checked}
use Rattle.parallel_checking.specs.declared.again.Placed.{Placed}
use Rattle.parallel_checking.specs.Again.{wants_answer}
use Rattle.parallel_checking.specs.Checks.{IsAnswerAt}

-- The place is one of the results', and wants an answer.
pub record Wants (results : List (Result Checked ItemFault)) (n : ℕ) : Type 0 where
  pub below : n < length results
  pub wants : wants_answer (slice_index_or results n (Err fault.Memory)) ≡ true

-- The places before a bound that want an answer.
pub record AreWanting (results : List (Result Checked ItemFault)) (bound : ℕ) (places : List ℕ) : Type 0 where
  pub just : All (Wants results) places
  pub all : (n : ℕ) → n < bound → Wants results n → Contains places n

-- The answer is that of the item at place number k of the list.
pub record IsPlacedAt {S : Type 0} (ds : Listing) (program : Meaning S) (items : List Piece) (places : List ℕ) (k : ℕ) (p : Placed (Result Checked ItemFault)) : Type 0 where
  pub place : p.place ≡ slice_index_or places k 0
  pub answer : IsAnswerAt ds program items p.place p.answer

-- There is an answer for each place of the list, at its number there.
pub record ArePlaced {S : Type 0} (ds : Listing) (program : Meaning S) (items : List Piece) (places : List ℕ) (answers : List (Placed (Result Checked ItemFault))) : Type 0 where
  pub count : length answers ≡ length places
  pub each : (k : ℕ) (d : Placed (Result Checked ItemFault)) → k < length places → IsPlacedAt ds program items places k (slice_index_or answers k d)

-- The list after each value was written to its place, one after the other.
abbrev pub written : {T : Type 0} → List T → List (Placed T) → List T
written xs [] = xs
written xs (p ∷ ps) = written (slice_set xs p.place p.answer) ps

-- The place is one of the list's.
abbrev pub IsPlaceOf : {T : Type 0} → List T → Placed T → Type 0
IsPlaceOf xs p = p.place < length xs
