use Rattle.bundling.proofs.Confirming.{confirmed}
use Rattle.bundling.proofs.laws.made_bundles_are_confirmed.Goals as goal

pub returns : goal.returns
returns g c = confirmed c.bundles_are_read.ensures c.proofs_convict_one_node.ensures
