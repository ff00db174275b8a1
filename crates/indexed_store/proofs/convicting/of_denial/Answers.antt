use Rattle.std.proofs.Common.{◌≡◌, ◌∷◌, [], refl, sym, ap, subst, ◌∙◌}
use Rattle.std.specs.Option.{option_map}
use Rattle.std.proofs.lemmas.Option.{same_Some}
use Rattle.authenticators.specs.declared.authenticator.Authenticator.{Authenticator}
use Rattle.item_forms.specs.declared.forms.Fields.{Fields}
use Rattle.item_forms.specs.declared.forms.Fields.TheVariants as form
use Rattle.evidence_item.specs.Statements.{IsSigned}
use Rattle.kept_items.specs.Positions.{shown}
use Rattle.indexed_store.proofs.convicting.of_denial.Goals as goal

pub returns-in_default-found : goal.returns-in_default-found
returns-in_default-found g c = λ a k one at segment. absurd (rw c.in_default-found.is at c.in_ok-found.ensures.none k at segment)

pub proof_of_denial-requires-clause-statement : goal.proof_of_denial-requires-clause-statement
proof_of_denial-requires-clause-statement g c = subst (IsSigned c.args.directory.now) (sym c.in_ok-statement.ensures) (c.requires c.args.row (shown c.in-Some.said) (sym c.said_at.ensures ∙ ap (option_map shown) c.in-Some.is))

pub proof_of_denial-requires-clause-segment : goal.proof_of_denial-requires-clause-segment
proof_of_denial-requires-clause-segment g c = (rw c.in-Some-found.is at c.in_ok-found.ensures.some).0

pub returns : goal.returns
returns g c = λ a k one at segment.
    let said : shown c.in-Some.said ≡ a = same_Some (shown c.in-Some.said) a (sym (sym c.said_at.ensures ∙ ap (option_map shown) c.in-Some.is) ∙ one) in
    let statement : c.in_ok-statement.statement ≡ a = c.in_ok-statement.ensures ∙ said in
    let fields = (rw c.in-Some-found.is at c.in_ok-found.ensures.some).1 k at in
    (c.in_ok-proof.proof, refl, c.in_ok-proof.ensures ∙ ap (λ (x : Authenticator). form.Auth x ∷ c.in-Some-found.segment.fields ∷ []) statement ∙ ap (λ (x : Fields). form.Auth a ∷ x ∷ []) (sym fields))
