-- Items that are checked again, since their checks were refused memory.
use Rattle.std.specs.Prelude.{◌≡◌, ◌<◌, ℕ, Bool, true, false, List, Result, Err, length, count_by, slice_index_or}
use Rattle.std.specs.Bool.{MatchBool}
use Rattle.authenticators.specs.Directory.{Listing}
use Rattle.replay_verifier.specs.Meaning.{Meaning}
use Rattle.item_forms.specs.Pieces.{Piece}
use Rattle.evidence_item.specs.declared.fault.ItemFault.{ItemFault}
use Rattle.evidence_item.specs.declared.fault.ItemFault.TheVariants as fault
use Rattle.evidence_item.specs.Checking.{Checked}
use Rattle.parallel_checking.specs.Checks.{AreAnswers, IsAnswerAt}

-- The check was refused memory, so its place wants an answer.
unfoldable pub wants_answer : Result Checked ItemFault → Bool
wants_answer (Err fault.Memory) = true
wants_answer r = false

-- A place that wanted an answer now has what checking gives of a copy of its item. This may be Memory again. Another place is unchanged.
abbrev pub IsAgainAt : {S : Type 0} → Listing → Meaning S → List Piece → ℕ → Result Checked ItemFault → Result Checked ItemFault → Type 0
IsAgainAt ds program items n old new = MatchBool (wants_answer old) (IsAnswerAt ds program items n new) (new ≡ old)

-- Each place is as IsAgainAt says. The number is how many places want an answer now.
pub record AreAgain {S : Type 0} (ds : Listing) (program : Meaning S) (items : List Piece) (old : List (Result Checked ItemFault)) (left : ℕ) (new : List (Result Checked ItemFault)) : Type 0 where
  pub count : length new ≡ length old
  pub each : (n : ℕ) (d : Result Checked ItemFault) → n < length old → IsAgainAt ds program items n (slice_index_or old n d) (slice_index_or new n d)
  pub left_is : left ≡ count_by wants_answer new

-- ---- a law, which `laws` proves

-- If there was an answer for each item before, there is one after checking again.
abbrev pub AgainAreAnswers : Type 0 → Type 0
AgainAreAnswers S =
    (ds : Listing) (program : Meaning S) (items : List Piece) (old new : List (Result Checked ItemFault)) (left : ℕ)
    → AreAnswers ds program items old → AreAgain ds program items old left new → AreAnswers ds program items new
