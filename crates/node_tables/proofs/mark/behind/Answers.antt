use Rattle.std.proofs.Common.{length}
use Rattle.std.specs.Prelude.{Bool}
use Rattle.node_tables.specs.declared.mark.Mark.{Mark}
use Rattle.node_tables.specs.within.Marking.{is_within}
use Rattle.node_tables.proofs.Edges.{edge_found, edge_inside}
use Rattle.node_tables.proofs.Marked.{within_parted}
use Rattle.node_tables.proofs.mark.behind.Goals as goal

pub returns-clause-inside : goal.returns-clause-inside
returns-clause-inside c = rw c.edge_at.ensures (edge_inside c.search.result (length c.args.marks.now.items) c.search.ensures.bound)

pub returns-clause-edge : goal.returns-clause-edge
returns-clause-edge c =
    let test : Mark → Bool = λ m. is_within c.args.front m in
    rw c.edge_at.ensures (edge_found test c.args.marks.now.items (within_parted c.args.marks.now.items c.requires c.args.front) c.search.result c.search.ensures.bound c.search.ensures.position)
