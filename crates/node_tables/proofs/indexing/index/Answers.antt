use Rattle.std.proofs.Common.{◌-◌, length}
use Rattle.node_tables.specs.within.Coming.{ItemCame}
use Rattle.node_tables.proofs.OneMore.{last_due, last_each, last_item}
use Rattle.node_tables.proofs.Stepping.{ascend_still}
use Rattle.node_tables.proofs.indexing.index.Goals as goal

pub put_item-requires-clause-due : goal.put_item-requires-clause-due
put_item-requires-clause-due g c = last_due c.args.items.now c.args.tables.now c.requires.others

pub returns-clause-each : goal.returns-clause-each
returns-clause-each g c = last_each c.args.items.now c.args.tables.now c.requires.others c.put_item.new.tables c.put_item.ensures

pub returns-clause-rooms : goal.returns-clause-rooms
returns-clause-rooms g c = λ others x split i u at.
    let (t, in_old, came) = c.put_item.ensures i u at in
    (t, in_old, came.rooms x (last_item c.args.items.now others x split))

pub returns-clause-ascending : goal.returns-clause-ascending
returns-clause-ascending g c =
    let are = c.requires.others in
    ascend_still (ItemCame c.args.items.now (length c.args.items.now - 1)) c.args.tables.now c.put_item.new.tables (λ t u came. (came.step are.last (last_item c.args.items.now are.others are.last are.split)).node) c.put_item.ensures c.requires.ascending
