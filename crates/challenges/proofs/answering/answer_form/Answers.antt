use Rattle.std.proofs.Common.{◌≡◌, ◌∙◌, false, inl, inr, sym, ap}
use Rattle.item_forms.specs.declared.forms.Form.{Form}
use Rattle.item_forms.specs.Forms.{shown}
use Rattle.item_forms.specs.Pieces.{Piece}
use Rattle.challenges.specs.Answers.{is_challenge}
use Rattle.challenges.proofs.Refused.{needs_none}
use Rattle.challenges.proofs.answering.answer_form.Goals as goal

pub returns-in-Auth-clause-refused : goal.returns-in-Auth-clause-refused
returns-in-Auth-clause-refused g c =
    let a = c.args.node.now.account in
    let x = c.args.challenge.now.item.fields in
    let same : shown c.form.result ≡ x = c.form.ensures ∙ ap (λ (p : Piece). p.fields) c.item.ensures in
    let none : is_challenge (shown c.form.result) ≡ false =
    elim c.in-Auth.is [
      | inl is ↦ ap (λ (f : Form). is_challenge (shown f)) is.1
      | inr more ↦ elim more [
        | inl is ↦ ap (λ (f : Form). is_challenge (shown f)) is.1
        | inr is ↦ ap (λ (f : Form). is_challenge (shown f)) is.1
      ]
    ] in
    needs_none a.me a.entries x (sym (ap is_challenge same) ∙ none)
