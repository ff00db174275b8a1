use Rattle.std.proofs.Common.{◌∙◌}
use Rattle.kept_evidence.proofs.Listed.{kept_is_held}
use Rattle.indexed_store.proofs.including.holds.Goals as goal

pub returns : goal.returns
returns g c = c.has.ensures ∙ kept_is_held c.args.index.now.items.items c.args.item.now
