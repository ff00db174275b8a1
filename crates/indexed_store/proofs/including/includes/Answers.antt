use Rattle.kept_evidence.proofs.Listed.{within}
use Rattle.indexed_store.proofs.including.includes.Goals as goal

pub returns : goal.returns
returns g c = rw c.keeps_each.ensures (within c.args.index.now.items.items c.args.others.now)
