use Rattle.outcome.proofs.Steps.{Fails-told}
use Rattle.outcome.proofs.laws.faults_are_told.Goals as goal

pub returns : goal.returns
returns g c = λ tell low memory e step names h. Fails-told tell memory low e step names h
