use Rattle.node_tables.proofs.Marked.{around}
use Rattle.node_tables.proofs.mark.near.Goals as goal

pub returns-clause-around : goal.returns-clause-around
returns-clause-around c = around c.args.marks.now.items c.args.front c.first_from-start.result c.behind-end.result c.first_from-start.ensures.edge c.behind-end.ensures.edge
