use Rattle.evidence.proofs.ComingBack.{exports_back}
use Rattle.evidence.proofs.laws.exports_come_back.Goals as goal

pub returns : goal.returns
returns c = exports_back c.sets_have_one_text.ensures c.joins_are_least_upper_bounds.ensures c.sets_are_as_expected.ensures
