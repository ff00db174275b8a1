use Rattle.outcome.proofs.Steps.{bind_ok}
use Rattle.outcome.proofs.laws.values_come_of_values.Goals as goal

pub returns : goal.returns
returns g c = λ step next y e. bind_ok step next y e
