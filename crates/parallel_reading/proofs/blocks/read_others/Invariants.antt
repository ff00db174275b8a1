use Rattle.std.proofs.Common.{◌-◌, ◌<◌, length, map}
use Rattle.parallel_reading.specs.within.Blocks.{AreRead}
use Rattle.parallel_reading.proofs.blocks.read_others.Given as goal

abbrev pub invariant-loop-alloc : goal.invariant-loop-alloc
invariant-loop-alloc g l =
    (length l.readings.items < length l.texts) ×
    AreRead l.directory g.P.Program.means (map (λ t. t.now) l.texts) (length l.readings.items) l.readings.items

abbrev pub decreases-loop-alloc : goal.decreases-loop-alloc
decreases-loop-alloc g l = length l.texts - length l.readings.items
