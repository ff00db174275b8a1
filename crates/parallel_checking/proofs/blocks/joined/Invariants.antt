use Rattle.std.proofs.Common.{◌≡◌, ◌++◌}
use Rattle.std.specs.Vec.Iter.{into_iter_items}
use Rattle.parallel_checking.specs.Parts.{AllWhole, items_of}
use Rattle.parallel_checking.proofs.blocks.joined.Given as goal

abbrev pub invariant-loop-one : goal.invariant-loop-one
invariant-loop-one g l =
    (goal.iterator-loop-one g).can_next l.one-iterator ×
    (goal.iterator-loop-one g).is_finite l.one-iterator ×
    (l.all.items ++ items_of (into_iter_items l.one-iterator) ≡ items_of l.fn.parts.items) ×
    (AllWhole (into_iter_items l.one-iterator) → AllWhole l.fn.parts.items)
