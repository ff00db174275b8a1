use Rattle.node_tables.proofs.Many.{kept_not, kept_so}
use Rattle.indexed_store.proofs.including.has.Goals as goal

pub returns-in-Ok : goal.returns-in-Ok
returns-in-Ok g c = kept_so c.args.index.now.items.items c.args.item.now (rw c.deref.ensures.value at c.in-Ok.ensures.there)

pub returns-in-Err : goal.returns-in-Err
returns-in-Err g c = kept_not c.args.index.now.items.items c.args.item.now (rw c.deref.ensures.value at c.in-Err.ensures.gap).absent
