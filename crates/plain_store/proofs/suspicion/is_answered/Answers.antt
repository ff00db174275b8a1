use Rattle.std.proofs.Common.{ap, inl, inr, refl, sym, ◌∙◌}
use Rattle.item_forms.specs.declared.forms.Fields.TheVariants as fields
use Rattle.item_forms.specs.Forms.{shown}
use Rattle.kept_evidence.proofs.Answered.{not_answered}
use Rattle.plain_store.proofs.suspicion.is_answered.Goals as goal

pub returns-in-Auth : goal.returns-in-Auth
returns-in-Auth g c =
    let kept = c.args.kept.now in
    let x = c.args.item.now.fields in
    elim c.in-Auth.is [
      | inl a ↦ sym (not_answered kept x (fields.Auth a.0.now) (sym c.form.ensures ∙ ap shown a.1) (λ y. refl))
      | inr more ↦ elim more [
        | inl s ↦ sym (not_answered kept x (fields.Segment s.0.now) (sym c.form.ensures ∙ ap shown s.1) (λ y. refl))
        | inr a ↦ sym (not_answered kept x (fields.Ack a.0.now) (sym c.form.ensures ∙ ap shown a.1) (λ y. refl))
      ]
    ]
