use Rattle.std.proofs.Common.{ap, ◌∙◌}
use Rattle.evidence_item.specs.Checking.{Checked}
use Rattle.kept_items.proofs.Made.{one_checked}
use Rattle.kept_items.proofs.statement.KeptStatement.into_checked.Goals as goal

pub returns : goal.returns
returns g c =
    c.from_parts.ensures
    ∙ one_checked _ c.args.self
    (c.item_of.ensures ∙ ap (λ (x : Checked). x.item.fields) c.self.view_is)
    (ap (λ (x : Checked). x.verdict) c.self.view_is)
    (ap (λ (x : Checked). x.findings) c.self.view_is)
