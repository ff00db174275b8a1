use Rattle.std.proofs.Common.{ℕ, length}
use Rattle.std.specs.Prelude.{Bool, slice_get}
use Rattle.node_tables.specs.within.Sendings.{is_up_to}
use Rattle.node_tables.proofs.Edges.{edge_found, edge_inside}
use Rattle.node_tables.proofs.Sendings.{up_to_parted}
use Rattle.node_tables.proofs.sending.edge_up_to.Goals as goal

pub returns-clause-inside : goal.returns-clause-inside
returns-clause-inside g c = rw c.edge_at.ensures (edge_inside c.search.result (length c.args.places.now.items) c.search.ensures.bound)

pub returns-clause-edge : goal.returns-clause-edge
returns-clause-edge g c =
    let test : ℕ → Bool = λ i. is_up_to c.args.sending.now (slice_get c.args.items.now i) in
    rw c.edge_at.ensures (edge_found test c.args.places.now.items (up_to_parted c.args.items.now c.args.places.now.items c.requires c.args.sending.now) c.search.result c.search.ensures.bound c.search.ensures.position)
