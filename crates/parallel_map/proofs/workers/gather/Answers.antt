use Rattle.parallel_map.proofs.Turns.{gathers}
use Rattle.parallel_map.proofs.workers.gather.Goals as goal

pub loop-one-preserved : goal.loop-one-preserved
loop-one-preserved g c = (tt, tt, gathers _ _ _ _ _ _ _ _ _ _ c.loop-one.invariant.2 c.in-Some.ensures.steps.0 c.join.ensures.table c.join.ensures.both c.in_ok-append.ensures.items)
