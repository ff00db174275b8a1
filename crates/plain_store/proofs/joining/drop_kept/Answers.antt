use Rattle.std.proofs.Common.{rules, not}
use Rattle.std.proofs.lemmas.Fn.{filter_same}
use Rattle.evidence_item.specs.Checking.{Checked}
use Rattle.kept_evidence.specs.Kept.{is_kept}
use Rattle.plain_store.proofs.joining.drop_kept.Goals as goal

pub returns : goal.returns
returns g c = filter_same _ (λ (k : Checked). not (is_kept c.args.kept.now k.item)) _ (λ x b f' k. search rules) _ _ c.retain.ensures.filtered
