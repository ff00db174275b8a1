use Rattle.std.proofs.Common.{◌≡◌, take}
use Rattle.std.specs.List.{flat_map}
use Rattle.evidence_item.specs.Checking.{Checked}
use Rattle.kept_evidence.specs.Telling.{told_statements}
use Rattle.plain_store.proofs.merging.statements_of_each.Given as goal

abbrev pub invariant-loop-item : goal.invariant-loop-item
invariant-loop-item g l = l.statements.items ≡ flat_map (λ (c : Checked). told_statements c.item.fields c.findings) (take l.item-index l.items)
