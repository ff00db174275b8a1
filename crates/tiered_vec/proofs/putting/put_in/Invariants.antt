use Rattle.std.proofs.Common.{◌-◌, length}
use Rattle.tiered_vec.proofs.Carried.{Carries}
use Rattle.tiered_vec.proofs.putting.put_in.Given as goal

abbrev pub invariant-loop-last : goal.invariant-loop-last
invariant-loop-last g l = Carries l.fn.size l.fn.tiers l.tiers l.fn.place l.fn.x l.tier l.at l.carried

abbrev pub decreases-loop-last : goal.decreases-loop-last
decreases-loop-last g l = length l.initial.tiers - l.tier
