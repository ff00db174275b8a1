use Rattle.std.specs.Vec.Iter.{into_iter_items}
use Rattle.parallel_map.specs.within.Working.{Gathering}
use Rattle.parallel_map.proofs.workers.gather.Given as goal

abbrev pub invariant-loop-one : goal.invariant-loop-one
invariant-loop-one g l =
    (goal.iterator-loop-one g).can_next l.one-iterator ×
    (goal.iterator-loop-one g).is_finite l.one-iterator ×
    Gathering l.numbers.table_id l.fn.drawn.items l.fn.mine.me.0.parts l.mine (into_iter_items l.one-iterator) l.placed.items
