use Rattle.std.proofs.Common.{◌≡◌, ap, sym, subst, ◌∙◌}
use Rattle.item_forms.specs.Forms.{shown}
use Rattle.item_forms.specs.declared.forms.AuditChallenge.{AuditChallenge}
use Rattle.kept_items.specs.Links.{NamesBeside}
use Rattle.node_tables.proofs.Challenged.{same_audit}
use Rattle.node_tables.proofs.bodies.put_by_hashes.Goals as goal

pub returns-else-not-put_namings-clause-named : goal.returns-else-not-put_namings-clause-named
returns-else-not-put_namings-clause-named g c = λ whole d f h is named.
    let same : d ≡ c.in-Some-Audit.audit.now = same_audit d c.in-Some-Audit.audit.now (sym is ∙ sym c.in-Some-Audit.ensures.some.0 ∙ ap shown c.in-Some-Audit.field-0-is) in
    c.put_namings.ensures.named c.if-not-put_namings.false f h (subst (λ (a : AuditChallenge). NamesBeside a f h) same named)
