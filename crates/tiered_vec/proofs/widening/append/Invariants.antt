use Rattle.std.proofs.Common.{length}
use Rattle.tiered_vec.proofs.Widened.{Moves}
use Rattle.tiered_vec.proofs.widening.append.Given as goal

abbrev pub invariant-loop-x : goal.invariant-loop-x
invariant-loop-x g l = Moves l.initial.list l.list l.fn.tier.items l.left.items

abbrev pub decreases-loop-x : goal.decreases-loop-x
decreases-loop-x g l = length l.left.items
