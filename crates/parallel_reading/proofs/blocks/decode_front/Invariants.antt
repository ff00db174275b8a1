use Rattle.std.proofs.Common.{◌-◌, length, map}
use Rattle.parallel_reading.specs.within.Blocks.{AreDecoded}
use Rattle.parallel_reading.proofs.blocks.decode_front.Given as goal

abbrev pub invariant-loop-alloc : goal.invariant-loop-alloc
invariant-loop-alloc l = AreDecoded (map (λ t. t.now) l.texts) l.items.items

abbrev pub decreases-loop-alloc : goal.decreases-loop-alloc
decreases-loop-alloc l = length l.texts - length l.items.items
