use Rattle.std.proofs.Common.{◌+◌, refl, arith}
use Rattle.parallel_reading.proofs.InBlocks.{each_some, more_blocks}
use Rattle.parallel_reading.proofs.blocks.blocks_of.Goals as goal

pub loop-start-preserved : goal.loop-start-preserved
loop-start-preserved c =
    let texts = c.args.texts.now in
    let start = c.loop-start.start in
    let some = c.requires.size in
    let least = c.min.ensures in
    let test = c.loop-start-test.true in
    let long = c.loop-start.invariant.1 in
    (omega (arith, least, test), long, more_blocks texts 0 start (start + c.min.result) c.loop-start.all.items c.push.new.self.items _ c.loop-start.invariant.2 (omega (arith, some, least, test)) (omega (arith, least, test, long)) refl c.in_ok-push.ensures.items)

pub returns-clause-each : goal.returns-clause-each
returns-clause-each c = each_some c.args.texts.now 0 c.loop-start.start c.loop-start.all.items c.loop-start.invariant.2
