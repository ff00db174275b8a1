use Rattle.kept_items.specs.Positions.{stated}
use Rattle.node_tables.specs.Rooms.{Promises}
use Rattle.node_tables.specs.Steps.{AscendByNode, EachBecomes, wanted}
use Rattle.node_tables.specs.within.Promising.{nothing}
use Rattle.node_tables.proofs.reserving.promise_statements.Given as goal

abbrev pub invariant-loop-position : goal.invariant-loop-position
invariant-loop-position g l = AscendByNode l.tables × EachBecomes (Promises (wanted (stated l.kept) l.position) nothing) l.fn.tables l.tables
