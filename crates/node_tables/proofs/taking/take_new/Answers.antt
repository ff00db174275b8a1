use Rattle.node_tables.proofs.Closed.{looked_wide}
use Rattle.node_tables.proofs.taking.take_new.Goals as goal

pub returns-clause-looked : goal.returns-clause-looked
returns-clause-looked g c = looked_wide c.args.items.now c.args.mark.item c.args.mark.front c.args.entries c.take_both.new.hashes c.take_both.ensures.done
