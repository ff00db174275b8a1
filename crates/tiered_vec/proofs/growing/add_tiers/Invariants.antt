use Rattle.std.proofs.Common.{◌-◌, length}
use Rattle.tiered_vec.proofs.Grown.{Keeps}
use Rattle.tiered_vec.proofs.growing.add_tiers.Given as goal

abbrev pub invariant-loop-alloc : goal.invariant-loop-alloc
invariant-loop-alloc g l = Keeps l.size l.initial.tiers.items l.tiers.items

abbrev pub decreases-loop-alloc : goal.decreases-loop-alloc
decreases-loop-alloc g l = l.count - length l.tiers.items
