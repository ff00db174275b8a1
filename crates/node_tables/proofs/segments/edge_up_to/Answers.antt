use Rattle.std.proofs.Common.{length}
use Rattle.node_tables.specs.declared.row.Row.{Row}
use Rattle.node_tables.specs.Rows.{stated_at}
use Rattle.node_tables.specs.within.Bringing.{up_to_by}
use Rattle.node_tables.proofs.Edges.{edge_found, edge_inside}
use Rattle.node_tables.proofs.segments.edge_up_to.Goals as goal

pub returns-clause-inside : goal.returns-clause-inside
returns-clause-inside g c = rw c.edge_at.ensures (edge_inside c.search.result (length c.args.rows.now.items) c.search.ensures.bound)

pub returns-clause-edge : goal.returns-clause-edge
returns-clause-edge g c = rw c.edge_at.ensures (edge_found (λ (r : Row). up_to_by (stated_at c.args.items.now r) c.args.number) c.args.rows.now.items c.requires c.search.result c.search.ensures.bound c.search.ensures.position)
