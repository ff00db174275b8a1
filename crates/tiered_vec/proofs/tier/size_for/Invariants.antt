use Rattle.std.proofs.Common.{◌-◌, ◌≤◌}
use Rattle.tiered_vec.specs.declared.tier.TheConstants.{GREATEST, LEAST}
use Rattle.tiered_vec.proofs.tier.size_for.Given as goal

abbrev pub invariant-loop-size : goal.invariant-loop-size
invariant-loop-size l = LEAST ≤ l.size

abbrev pub decreases-loop-size : goal.decreases-loop-size
decreases-loop-size l = GREATEST - l.size
