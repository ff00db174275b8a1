use Rattle.std.proofs.Common.{◌-◌, length}
use Rattle.tiered_vec.proofs.Pulled.{Takes}
use Rattle.tiered_vec.proofs.removing.take_out.Given as goal

abbrev pub invariant-loop-tier : goal.invariant-loop-tier
invariant-loop-tier g l = Takes l.fn.size l.fn.tiers l.tiers l.fn.place l.tier

abbrev pub decreases-loop-tier : goal.decreases-loop-tier
decreases-loop-tier g l = length l.initial.tiers - l.tier
