use Rattle.std.proofs.Common.{arith}
use Rattle.sentences.proofs.Groups.{none_left, one_more}
use Rattle.sentences.proofs.basis.put_groups.Goals as goal

pub loop-left-preserved : goal.loop-left-preserved
loop-left-preserved c =
    one_more _ c.loop-left.text.items c.put_group.new.text.items c.loop-left.left.now c.split_at.result.0.now c.split_at.result.1.now c.loop-left.invariant (omega arith) c.split_at.ensures.front c.split_at.ensures.back
    c.in_ok-put_group.ensures

pub returns : goal.returns
returns c = none_left _ c.loop-left.text.items c.loop-left.left.now c.loop-left.invariant (omega arith)
