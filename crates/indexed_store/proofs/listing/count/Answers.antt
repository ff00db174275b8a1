use Rattle.std.proofs.Common.{◌∙◌}
use Rattle.indexed_store.proofs.Listed.{counts}
use Rattle.indexed_store.proofs.listing.count.Goals as goal

pub returns : goal.returns
returns g c = c.len.ensures ∙ counts c.args.index.now.items.items c.args.index.now.order.items c.requires
