use Rattle.node_tables.proofs.Namings.{around}
use Rattle.node_tables.proofs.naming.places_of.Goals as goal

pub returns-clause-around : goal.returns-clause-around
returns-clause-around c = around c.args.namings.now.items c.args.fronts c.first_of-start.result c.behind-end.result c.first_of-start.ensures.edge c.behind-end.ensures.edge
