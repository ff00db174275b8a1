use Rattle.std.proofs.Common.{◌∙◌, sym}
use Rattle.proofs.proofs.Ranges.{range_of-rising}
use Rattle.proofs.proofs.ranged_segment.RangedSegment.has_pair.Goals as goal

pub finds_pair-requires-clause-rising : goal.finds_pair-requires-clause-rising
finds_pair-requires-clause-rising c = range_of-rising c.self.inside.segment.now.entries c.in-Some.field-0 (sym c.self.invariant.range ∙ c.in-Some.is)
