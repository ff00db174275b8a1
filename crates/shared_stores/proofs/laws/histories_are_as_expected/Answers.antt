use Rattle.shared_stores.proofs.Replaying.{as_expected}
use Rattle.shared_stores.proofs.laws.histories_are_as_expected.Goals as goal

pub returns : goal.returns
returns g c = as_expected c.indications_are_one.ensures c.sets_are_as_expected.ensures c.joins_are_least_upper_bounds.ensures
