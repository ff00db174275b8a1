use Rattle.std.proofs.Common.{◌-◌}
use Rattle.tiered_vec.proofs.Narrowed.{Narrows}
use Rattle.tiered_vec.proofs.tiered_vec.TieredVec.search.Given as goal

abbrev pub invariant-loop-low : goal.invariant-loop-low
invariant-loop-low g l = Narrows (g.Q.Probe.order l.probe) l.self.items l.low l.high

abbrev pub decreases-loop-low : goal.decreases-loop-low
decreases-loop-low g l = l.high - l.low
