use Rattle.std.proofs.Common.{◌≤◌}
use Rattle.node_tables.specs.within.Spanning.{NoneIsAround}
use Rattle.node_tables.proofs.span_list.last_around.Given as goal

abbrev pub invariant-loop-end : goal.invariant-loop-end
invariant-loop-end l = record {
  inside : l.end ≤ l.before;
  none : NoneIsAround l.from l.to l.spans l.end l.before;
}

abbrev pub decreases-loop-end : goal.decreases-loop-end
decreases-loop-end l = l.end
