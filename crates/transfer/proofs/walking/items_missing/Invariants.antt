use Rattle.evidence_item.specs.Checking.{IsChecked}
use Rattle.transfer.proofs.Applied.{AreMissing}
use Rattle.transfer.proofs.walking.items_missing.Given as goal

abbrev pub invariant-loop-item : goal.invariant-loop-item
invariant-loop-item g l = let s = g.S.Evidence.contents l.store in AreMissing s.items (IsChecked s.directory g.P.Program.means) l.items l.item-index l.missing.items
