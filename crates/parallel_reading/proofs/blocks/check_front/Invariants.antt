use Rattle.std.proofs.Common.{◌≡◌, ◌≤◌, drop, length}
use Rattle.std.specs.Vec.Iter.{into_iter_items}
use Rattle.parallel_reading.specs.within.Blocks.{AreCheckedAs}
use Rattle.parallel_reading.proofs.blocks.check_front.Given as goal

abbrev pub invariant-loop-item : goal.invariant-loop-item
invariant-loop-item g l =
    (goal.iterator-loop-item g).can_next l.item-iterator ×
    (goal.iterator-loop-item g).is_finite l.item-iterator ×
    (length l.readings.items ≤ length l.fn.items.items) ×
    (into_iter_items l.item-iterator ≡ drop (length l.readings.items) l.fn.items.items) ×
    AreCheckedAs l.directory g.P.Program.means (length l.readings.items) l.fn.items.items l.readings.items
