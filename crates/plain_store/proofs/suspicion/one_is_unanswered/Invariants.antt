use Rattle.std.proofs.Common.{◌≡◌, false, take}
use Rattle.std.specs.List.{list_any}
use Rattle.evidence_item.specs.Checking.{Checked}
use Rattle.kept_evidence.specs.Telling.{is_unanswered}
use Rattle.plain_store.proofs.suspicion.one_is_unanswered.Given as goal

abbrev pub invariant-loop-item : goal.invariant-loop-item
invariant-loop-item g l = list_any (λ (c : Checked). is_unanswered l.kept l.node c.item.fields) (take l.item-index l.items) ≡ false
