use Rattle.node_tables.proofs.Sendings.{edges_rise, taken}
use Rattle.node_tables.proofs.sending.places_of.Goals as goal

pub returns-clause-order : goal.returns-clause-order
returns-clause-order g c = edges_rise c.args.items.now c.args.places.now.items c.args.sending.now c.edge_before-start.result c.edge_up_to-end.result c.edge_before-start.ensures.inside c.edge_up_to-end.ensures.inside c.edge_before-start.ensures.edge c.edge_up_to-end.ensures.edge

pub returns-clause-others : goal.returns-clause-others
returns-clause-others g c = taken c.args.items.now c.args.places.now.items c.args.sending.now c.edge_before-start.result c.edge_up_to-end.result c.edge_before-start.ensures.inside c.edge_up_to-end.ensures.inside c.edge_before-start.ensures.edge c.edge_up_to-end.ensures.edge
