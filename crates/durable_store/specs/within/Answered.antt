-- How answers of checks are gone through, by private code.
use Rattle.std.specs.Prelude.{◌≡◌, ◌+◌, ◌<◌, ◌^◌, ℕ, List, ◌++◌, length, Result}
use Rattle.std.specs.List.{All}
use Rattle.authenticators.specs.Directory.{Listing}
use Rattle.replay_verifier.specs.Meaning.{Meaning}
use Rattle.item_forms.specs.Pieces.{Piece}
use Rattle.evidence_item.specs.Checking.{Checked, IsChecked}
use Rattle.evidence_item.specs.declared.fault.ItemFault.{ItemFault}
use Rattle.evidence_set.specs.ItemSets.{pieces}
use Rattle.parallel_checking.specs.Checks.{AreAnswers}

-- The first items were given back, each checked, and the answers that are left are those of the items that are left.
pub record Checking {S : Type 0} (ds : Listing) (program : Meaning S) (items : List Piece) (valid : List Checked) (answers : List (Result Checked ItemFault)) : Type 0 where
  pub left : List Piece
  pub items_are : pieces valid ++ left ≡ items
  pub checked : All (IsChecked ds program) valid
  pub answered : AreAnswers ds program left answers

-- The same under each directory and for all items of which these were the answers. There are as many answers as fit behind a place.
pub record CheckingAll {S : Type 0} (program : Meaning S) (all : List (Result Checked ItemFault)) (before : ℕ) (valid : List Checked) (answers : List (Result Checked ItemFault)) : Type 0 where
  pub each : (ds : Listing) (items : List Piece) → AreAnswers ds program items all → Checking ds program items valid answers
  pub fits : before + length valid + length answers < 2 ^ 64
