use Rattle.node_runs.proofs.Adding.{runs_add}
use Rattle.node_runs.proofs.runs_only_add.Goals as goal

pub returns : goal.returns
returns g c = runs_add c.calls_only_add.ensures
