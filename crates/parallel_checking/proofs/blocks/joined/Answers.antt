use Rattle.parallel_checking.proofs.Joining.{joins}
use Rattle.parallel_checking.proofs.blocks.joined.Goals as goal

pub loop-one-preserved : goal.loop-one-preserved
loop-one-preserved g c =
    let next = joins c.loop-one.all.items c.append.new.self.items c.in-Some.one c.in-Ok.part _ _ c.args.parts.items c.in-Some.ensures.steps.0 c.in-Ok.is c.in_ok-append.ensures.items c.loop-one.invariant.2 c.loop-one.invariant.3 in
    (tt, tt, next.0, next.1)
