use Rattle.std.proofs.Common.{◌≡◌, false, take}
use Rattle.std.specs.List.{list_any}
use Rattle.evidence_item.specs.Checking.{Checked}
use Rattle.evidence_set.specs.Challenges.{answers_audit}
use Rattle.plain_store.proofs.suspicion.one_answers_audit.Given as goal

abbrev pub invariant-loop-item : goal.invariant-loop-item
invariant-loop-item g l = list_any (λ (c : Checked). answers_audit l.challenge c.item.fields) (take l.item-index l.items) ≡ false
