use Rattle.shared_stores.proofs.Replaying.{own_calls}
use Rattle.shared_stores.proofs.laws.own_calls_are_seen.Goals as goal

pub returns : goal.returns
returns g c = own_calls c.histories_are_as_expected.ensures
