use Rattle.std.proofs.Common.{◌∙◌, arith, refl}
use Rattle.std.proofs.lemmas.List.{take_all}
use Rattle.parallel_checking.proofs.Joining.{fit, next_block}
use Rattle.parallel_checking.proofs.blocks.blocks_of.Goals as goal

pub loop-start-preserved : goal.loop-start-preserved
loop-start-preserved c =
    next_block c.args.items.now c.loop-start.all.items c.push.new.self.items c.loop-start.start c.min.result _ (omega (arith, c.min.ensures, c.loop-start-test.true)) c.loop-start.invariant.1 c.loop-start.invariant.2 refl c.in_ok-push.ensures.items

pub returns-clause-items : goal.returns-clause-items
returns-clause-items c = c.loop-start.invariant.1 ∙ take_all c.loop-start.start c.args.items.now (omega (arith, c.loop-start-test.false))

pub returns-clause-places : goal.returns-clause-places
returns-clause-places c = fit c.loop-start.all.items c.loop-start.start (omega (arith, c.loop-start.auto.start-fits)) c.loop-start.invariant.2
