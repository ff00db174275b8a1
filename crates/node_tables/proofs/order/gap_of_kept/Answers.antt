use Rattle.node_tables.proofs.Joined.{found_or}
use Rattle.node_tables.proofs.order.gap_of_kept.Goals as goal

pub returns-clause-there : goal.returns-clause-there
returns-clause-there g c = (found_or c.args.items.now c.args.order.now.items c.requires c.args.kept.now.item c.search.result c.search.ensures.bound c.search.ensures.position).0

pub returns-clause-gap : goal.returns-clause-gap
returns-clause-gap g c = (found_or c.args.items.now c.args.order.now.items c.requires c.args.kept.now.item c.search.result c.search.ensures.bound c.search.ensures.position).1
