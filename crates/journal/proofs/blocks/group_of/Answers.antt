use Rattle.std.proofs.Common.{length, ap, arith}
use Rattle.journal.proofs.Sizes.{size_within}
use Rattle.journal.proofs.blocks.group_of.Goals as goal

pub put_block-requires : goal.put_block-requires
put_block-requires c =
    let within = size_within c.args.texts.now c.loop-text.text-index c.text-item.result c.loop-text-test.true c.text-item.is in
    let same = ap length c.deref.ensures.value in
    omega (arith, within, same, c.requires)
