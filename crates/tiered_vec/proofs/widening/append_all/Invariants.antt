use Rattle.std.specs.Vec.Iter.{into_iter_items}
use Rattle.tiered_vec.proofs.Widened.{Moves}
use Rattle.tiered_vec.specs.within.Tiering.{items_of}
use Rattle.tiered_vec.proofs.widening.append_all.Given as goal

abbrev pub invariant-loop-tier : goal.invariant-loop-tier
invariant-loop-tier g l = Moves l.initial.list l.list (items_of l.fn.tiers.items) (items_of (into_iter_items l.tier-iterator))
