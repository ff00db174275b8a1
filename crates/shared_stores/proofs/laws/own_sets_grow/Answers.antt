use Rattle.shared_stores.proofs.Replaying.{own_grow}
use Rattle.shared_stores.proofs.laws.own_sets_grow.Goals as goal

pub returns : goal.returns
returns g c = own_grow c.histories_are_as_expected.ensures
