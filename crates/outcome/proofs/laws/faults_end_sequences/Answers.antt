use Rattle.outcome.proofs.Steps.{Fails-then}
use Rattle.outcome.proofs.laws.faults_end_sequences.Goals as goal

pub returns : goal.returns
returns g c = λ memory e step next h. Fails-then memory e step next h
