use Rattle.std.proofs.Common.{◌≡◌, take}
use Rattle.std.specs.List.{All}
use Rattle.evidence_item.specs.Checking.{IsChecked}
use Rattle.evidence_set.specs.ItemSets.{pieces}
use Rattle.kept_evidence.specs.Kept.{IsWhole}
use Rattle.kept_evidence.proofs.findings.find_all.Given as goal

abbrev pub invariant-loop-checked : goal.invariant-loop-checked
invariant-loop-checked g l =
    (pieces l.checked-items ≡ pieces l.initial.checked-items)
    × All (IsChecked l.directory g.P.Program.means) l.checked-items
    × All (IsWhole l.directory g.P.Program.means) (take l.checked-index l.checked-items)
