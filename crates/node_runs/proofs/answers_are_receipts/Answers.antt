use Rattle.node_runs.proofs.Receipts.{are_receipts}
use Rattle.node_runs.proofs.answers_are_receipts.Goals as goal

pub returns : goal.returns
returns g c = are_receipts
