use Rattle.std.proofs.Common.{◌≡◌, ◌∷◌, [], refl, sym, ap, subst, ◌∙◌}
use Rattle.std.specs.Option.{option_map}
use Rattle.std.proofs.lemmas.Option.{same_Some}
use Rattle.authenticators.specs.declared.authenticator.Authenticator.{Authenticator}
use Rattle.item_forms.specs.declared.forms.Fields.TheVariants as form
use Rattle.evidence_item.specs.Statements.{IsSigned}
use Rattle.kept_items.specs.Positions.{shown}
use Rattle.indexed_store.proofs.convicting.of_two.Goals as goal

pub proof_of_two-requires-clause-one : goal.proof_of_two-requires-clause-one
proof_of_two-requires-clause-one g c = subst (IsSigned c.args.directory.now) (sym c.in_ok-earlier.ensures) (c.requires c.args.one (shown c.in-Some.first) (sym c.said_at.ensures ∙ ap (option_map shown) c.in-Some.is))

pub proof_of_two-requires-clause-other : goal.proof_of_two-requires-clause-other
proof_of_two-requires-clause-other g c = subst (IsSigned c.args.directory.now) (sym c.in_ok-later.ensures) (c.requires c.args.other (shown c.in-Some-said_at.second) (sym c.said_at-2.ensures ∙ ap (option_map shown) c.in-Some-said_at.is))

pub returns : goal.returns
returns g c = λ a b one other.
    let first : shown c.in-Some.first ≡ a = same_Some (shown c.in-Some.first) a (sym (sym c.said_at.ensures ∙ ap (option_map shown) c.in-Some.is) ∙ one) in
    let second : shown c.in-Some-said_at.second ≡ b = same_Some (shown c.in-Some-said_at.second) b (sym (sym c.said_at-2.ensures ∙ ap (option_map shown) c.in-Some-said_at.is) ∙ other) in
    let earlier : c.in_ok-earlier.earlier ≡ a = c.in_ok-earlier.ensures ∙ first in
    let later : c.in_ok-later.later ≡ b = c.in_ok-later.ensures ∙ second in
    (c.in_ok-proof.proof, refl, c.in_ok-proof.ensures ∙ ap (λ (x : Authenticator). form.Auth x ∷ form.Auth c.in_ok-later.later ∷ []) earlier ∙ ap (λ (x : Authenticator). form.Auth a ∷ form.Auth x ∷ []) later)
