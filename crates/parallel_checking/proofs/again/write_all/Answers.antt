use Rattle.parallel_checking.proofs.Placing.{head_place, tail_places, writes_on}
use Rattle.parallel_checking.proofs.again.write_all.Goals as goal

pub write-requires : goal.write-requires
write-requires g c = head_place _ _ _ _ c.loop-one.invariant.2 c.in-Some.ensures.steps.0

pub loop-one-preserved : goal.loop-one-preserved
loop-one-preserved g c = (
  tt,
  tt,
  tail_places _ _ _ _ _ c.loop-one.invariant.2 c.in-Some.ensures.steps.0 c.write.ensures,
  writes_on _ _ _ _ _ _ c.in-Some.ensures.steps.0 c.write.ensures c.loop-one.invariant.3,
)
