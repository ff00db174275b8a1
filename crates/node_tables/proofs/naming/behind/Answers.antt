use Rattle.std.proofs.Common.{length}
use Rattle.std.specs.Prelude.{Bool}
use Rattle.node_tables.specs.declared.naming.Naming.{Naming}
use Rattle.node_tables.specs.within.Named.{stands_up_to}
use Rattle.node_tables.proofs.Edges.{edge_found, edge_inside}
use Rattle.node_tables.proofs.Namings.{up_to_parted}
use Rattle.node_tables.proofs.naming.behind.Goals as goal

pub returns-clause-inside : goal.returns-clause-inside
returns-clause-inside c = rw c.edge_at.ensures (edge_inside c.search.result (length c.args.namings.now.items) c.search.ensures.bound)

pub returns-clause-edge : goal.returns-clause-edge
returns-clause-edge c =
    let test : Naming → Bool = λ m. stands_up_to c.args.fronts m in
    rw c.edge_at.ensures (edge_found test c.args.namings.now.items (up_to_parted c.args.namings.now.items c.requires c.args.fronts) c.search.result c.search.ensures.bound c.search.ensures.position)
