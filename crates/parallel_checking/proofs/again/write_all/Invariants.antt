use Rattle.std.proofs.Common.{◌≡◌}
use Rattle.std.specs.List.{All}
use Rattle.std.specs.Vec.Iter.{into_iter_items}
use Rattle.parallel_checking.specs.within.Placing.{IsPlaceOf, written}
use Rattle.parallel_checking.proofs.again.write_all.Given as goal

abbrev pub invariant-loop-one : goal.invariant-loop-one
invariant-loop-one g l =
    (goal.iterator-loop-one g).can_next l.one-iterator ×
    (goal.iterator-loop-one g).is_finite l.one-iterator ×
    All (IsPlaceOf l.results.items) (into_iter_items l.one-iterator) ×
    (written l.results.items (into_iter_items l.one-iterator) ≡ written l.fn.results.items l.fn.answers.items)
