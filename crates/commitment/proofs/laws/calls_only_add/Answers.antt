use Rattle.commitment.proofs.OnlyAdding.{calls_only_add as only_adding}
use Rattle.commitment.proofs.laws.calls_only_add.Goals as goal

pub returns : goal.returns
returns g c = only_adding
