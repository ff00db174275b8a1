use Rattle.std.proofs.Common.{ap, ◌∙◌}
use Rattle.authenticators.specs.declared.authenticator.Authenticator.{Authenticator}
use Rattle.item_forms.specs.declared.forms.Fields.TheVariants as form
use Rattle.evidence_item.specs.Checking.{Checked}
use Rattle.kept_items.proofs.Made.{one_checked}
use Rattle.kept_items.proofs.statement.KeptStatement.try_clone.Goals as goal

pub returns : goal.returns
returns c =
    one_checked _ c.args.self.now
    (ap (λ (a : Authenticator). form.Auth a) c.in_ok-auth.ensures ∙ ap (λ (x : Checked). x.item.fields) c.self.view_is)
    (ap (λ (x : Checked). x.verdict) c.self.view_is)
    (ap (λ (x : Checked). x.findings) c.self.view_is)
