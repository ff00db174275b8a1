use Rattle.localities.proofs.RangeParts.{are_parts}
use Rattle.localities.proofs.laws.ranges_are_parts.Goals as goal

pub returns : goal.returns
returns c = are_parts c.parts_are_as_expected.ensures c.joins_are_as_expected.ensures c.joins_are_least_upper_bounds.ensures c.sets_are_as_expected.ensures
