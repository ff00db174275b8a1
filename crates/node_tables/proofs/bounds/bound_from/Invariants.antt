use Rattle.node_tables.specs.within.Spanning.{AreBoundedUpTo}
use Rattle.node_tables.proofs.bounds.bound_from.Given as goal

abbrev pub invariant-loop-place : goal.invariant-loop-place
invariant-loop-place l = AreBoundedUpTo l.spans l.bounds l.place
