use Rattle.std.proofs.Common.{◌≡◌, ◌+◌, ◌-◌, ◌≤◌, length}
use Rattle.parallel_reading.specs.within.Blocks.{AreBlocks}
use Rattle.parallel_reading.proofs.blocks.blocks_of.Given as goal

abbrev pub invariant-loop-start : goal.invariant-loop-start
invariant-loop-start l = (l.start ≤ l.last) × (l.last + 1 ≡ length l.texts) × AreBlocks l.texts 0 l.start l.all.items

abbrev pub decreases-loop-start : goal.decreases-loop-start
decreases-loop-start l = l.last - l.start
