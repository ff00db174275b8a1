use Rattle.node_tables.specs.Steps.{AscendByNode, EachBecomes}
use Rattle.node_tables.specs.within.Coming.{StatementsCame}
use Rattle.node_tables.proofs.tables.put_statements.Given as goal

abbrev pub invariant-loop-position : goal.invariant-loop-position
invariant-loop-position g l = AscendByNode l.tables × EachBecomes (StatementsCame l.items l.item l.position) l.fn.tables l.tables
