use Rattle.std.proofs.Common.{◌∙◌}
use Rattle.kept_evidence.proofs.Listed.{kept_is_held}
use Rattle.plain_store.proofs.placing.holds.Goals as goal

pub returns : goal.returns
returns g c = c.keeps.ensures ∙ kept_is_held c.args.kept.now c.args.item.now
