use Rattle.std.proofs.Common.{◌+◌, ◌-◌}
use Rattle.node_tables.specs.within.Spanning.{IsBound}
use Rattle.node_tables.proofs.bounds.joined.Given as goal

abbrev pub invariant-loop-before : goal.invariant-loop-before
invariant-loop-before l = IsBound l.spans l.place l.all

abbrev pub decreases-loop-before : goal.decreases-loop-before
decreases-loop-before l = l.place + 1 - l.all.count
