-- Forgeries, case by case.
use Rattle.std.proofs.Common.{◌≡◌, ℕ, sym, ap, ◌∙◌, subst, inl, inr}
use Rattle.std.specs.List.{Contains}
use Rattle.authenticators.specs.declared.authenticator.Authenticator.{Authenticator}
use Rattle.authenticators.specs.Directory.{Listing}
use Rattle.replay_verifier.specs.Quotes.{ReceiptsHaveOneText}
use Rattle.commitment.specs.Accounts.{stamp}
use Rattle.item_forms.specs.declared.forms.Fields.{Fields}
use Rattle.item_forms.specs.declared.forms.Fields.TheVariants as form
use Rattle.item_forms.specs.Pieces.{Piece}
use Rattle.evidence_set.specs.Forgeries.{ForgeriesAreUnsigned}
use Rattle.evidence_set.specs.Held.{HeldStatementsAreSigned, Holds, IsHeld}
use Rattle.evidence_set.specs.ItemSets.{Has, SetsAsExpected, insert, none}
use Rattle.evidence_set.proofs.Members.{only_member}
use Rattle.evidence_set.proofs.StatementRanges.{held_in_range}

module _ (expected : SetsAsExpected) (receipts : ReceiptsHaveOneText) (verified : HeldStatementsAreSigned) where
  only_one : (x z : Piece) → Has (insert none x) z → z ≡ x
  only_one x z h = elim ((expected.insert none x z).0 h) [ inl is ↦ is | inr old ↦ absurd (expected.none z old) ]

  -- the one statement of a set of one statement
  held_alone : (ds : Listing) (x : Piece) (a : Authenticator) (j : ℕ) (b : Authenticator) → x.fields ≡ form.Auth a → IsHeld ds (insert none x) j b → a ≡ b
  held_alone ds x a j b is h =
      let same : h.stands.0.fields ≡ form.Auth a = ap (λ (p : Piece). p.fields) (only_one x h.stands.0 h.stands.1) ∙ is in
      only_member a b (subst (λ (f : Fields). Holds ds f b) same h.stands.2)

  pub forgeries : ForgeriesAreUnsigned
  forgeries = record {
    found = λ ds E j signed a h out. let r = held_in_range ds h.stands.0.fields a receipts h.stands.0.fits h.stands.2 in
        record { statement = a; held = h; number = r.number; hash = r.hash; unsigned = out };
    verifies = λ ds E j signed valid f.
        let at = f.held.stands in
        verified ds at.0.fields f.statement (valid at.0 at.1) at.2;
    all_signed = λ ds E j signed each f. f.unsigned (each f.statement f.held);
    empty = λ ds j signed f. expected.none f.held.stands.0 f.held.stands.1;
    again = λ ds x a signed is c f. f.unsigned (subst (λ (b : Authenticator). Contains signed (stamp b)) (held_alone ds x a a.node f.statement is f.held) c);
    others = λ ds x a j signed is other f. other (sym (ap (λ (b : Authenticator). b.node) (held_alone ds x a j f.statement is f.held) ∙ f.held.of));
    stay = λ ds A B j signed within f. record {
      statement = f.statement;
      held = record { of = f.held.of; stands = (f.held.stands.0, within f.held.stands.0 f.held.stands.1, f.held.stands.2) };
      number = f.number;
      hash = f.hash;
      unsigned = f.unsigned;
    };
  }
