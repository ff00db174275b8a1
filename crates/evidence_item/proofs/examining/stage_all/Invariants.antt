use Rattle.evidence_item.proofs.Examinations.{Beside}
use Rattle.evidence_item.specs.within.Stating.{IsStage}
use Rattle.evidence_item.proofs.examining.stage_all.Given as goal

abbrev pub invariant-loop-k : goal.invariant-loop-k
invariant-loop-k l = Beside (λ x s. IsStage l.directory x.fields s) l.k l.items l.stages.items
