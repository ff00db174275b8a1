use Rattle.commitment.proofs.HonestNodes.{statements_logged}
use Rattle.commitment.proofs.laws.statements_are_logged.Goals as goal

pub returns : goal.returns
returns c = statements_logged
