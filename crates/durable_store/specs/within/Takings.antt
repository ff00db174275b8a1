-- How a store takes the items of a group, one after the other.
use Rattle.std.specs.Prelude.{◌≡◌, ◌+◌, ◌≤◌, ℕ, Bool, List, ◌++◌, length}
use Rattle.std.specs.List.{All}
use Rattle.replay_verifier.specs.Meaning.{Meaning}
use Rattle.evidence_item.specs.Checking.{Checked, IsChecked}
use Rattle.item_forms.specs.Pieces.{Piece}
use Rattle.evidence_set.specs.ItemSets.{IsWithin, insert_all, pieces}
use Rattle.evidence.specs.Contents.{Contents}
use Rattle.durable_store.specs.Calls.{are_new}

-- Some items of the group were taken, and it was noted whether they were new. The rest is still to be taken.
pub record Taking {S : Type 0} (program : Meaning S) (before : Contents) (group : List Piece) (now : Contents) (news : List Bool) (room : ℕ) (rest : List Checked) : Type 0 where
  pub directory : now.directory ≡ before.directory
  pub least : IsWithin before.items now.items
  pub all : insert_all now.items (pieces rest) ≡ insert_all before.items group
  pub told : news ++ are_new now.items (pieces rest) ≡ are_new before.items group
  pub fits : length news + length rest ≤ room
  pub checked : All (IsChecked now.directory program) rest
