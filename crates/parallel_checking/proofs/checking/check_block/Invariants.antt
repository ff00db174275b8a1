use Rattle.parallel_checking.specs.Checks.{IsAnswer}
use Rattle.evidence_item.proofs.Examinations.{Beside}
use Rattle.parallel_checking.proofs.checking.check_block.Given as goal

abbrev pub invariant-loop-k : goal.invariant-loop-k
invariant-loop-k g l = Beside (λ x r. IsAnswer l.directory g.P.Program.means x r) l.k l.items l.answers.items
