use Rattle.parallel_checking.specs.within.Placing.{AreWanting}
use Rattle.parallel_checking.proofs.again.wanting.Given as goal

abbrev pub invariant-loop-n : goal.invariant-loop-n
invariant-loop-n g l = AreWanting l.results l.n l.places.items
