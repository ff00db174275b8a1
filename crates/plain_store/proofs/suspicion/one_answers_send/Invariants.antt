use Rattle.std.proofs.Common.{◌≡◌, false, take}
use Rattle.std.specs.List.{list_any}
use Rattle.evidence_item.specs.Checking.{Checked}
use Rattle.kept_evidence.specs.Telling.{told_send}
use Rattle.plain_store.proofs.suspicion.one_answers_send.Given as goal

abbrev pub invariant-loop-item : goal.invariant-loop-item
invariant-loop-item g l = list_any (λ (c : Checked). told_send l.message c.item.fields c.findings) (take l.item-index l.items) ≡ false
