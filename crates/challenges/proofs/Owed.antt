-- Challenges that are owed an answer.
use Rattle.std.proofs.Common.{◌≡◌, ℕ, [], ◌∷◌, map, Option, Some, None, refl, sym, ap, ◌∙◌, subst, inl, inr, arith}
use Rattle.std.specs.List.{Contains}
use Rattle.std.proofs.lemmas.Bool.{eq-eqb}
use Rattle.std.proofs.lemmas.List.Elements.{Contains-append_cases}
use Rattle.authenticators.specs.declared.authenticator.Authenticator.{Authenticator}
use Rattle.authenticators.specs.Directory.{Listing}
use Rattle.messages.specs.declared.message.Message.{Message}
use Rattle.commitment.specs.Accounts.{stamp}
use Rattle.commitment.specs.Nodes.{NodeState}
use Rattle.item_forms.specs.declared.forms.AuditChallenge.{AuditChallenge}
use Rattle.item_forms.specs.declared.forms.Fields.{Fields}
use Rattle.item_forms.specs.declared.forms.Fields.TheVariants as form
use Rattle.item_forms.specs.declared.forms.Statement.{Statement}
use Rattle.item_forms.specs.Pieces.{Piece}
use Rattle.evidence_item.specs.Statements.{first_named, named, sent}
use Rattle.evidence_item.specs.Validity.{IsValid}
use Rattle.evidence_set.specs.Challenges.{is_against}
use Rattle.evidence_set.specs.Forgeries.{ForgeriesAreUnsigned}
use Rattle.evidence_set.specs.Held.{Holds, IsHeld}
use Rattle.evidence_set.specs.ItemSets.{SetsAsExpected, insert, none}
use Rattle.evidence_set.proofs.Members.{only_member}
use Rattle.challenges.specs.AnswerLaws.{IsNamed, IsOwed, PlainChallengesAreOwed}
use Rattle.challenges.specs.Answers.{is_challenge}

-- what an audit challenge holds is named by it
held_named : (ds : Listing) (c : AuditChallenge) (a : Authenticator) → Holds ds (form.Audit c) a → (s : Statement) × IsNamed c s × (named c.node s ≡ a)
held_named ds c a h = elim (Contains-append_cases (first_named c.node c.first) (named c.node c.last ∷ []) a h) [
  | inl first ↦ of_first c.first refl first
  | inr last ↦ (c.last, inr refl, only_member (named c.node c.last) a last)
]
  where
    of_first : (o : Option Statement) → c.first ≡ o → Contains (first_named c.node o) a → (s : Statement) × IsNamed c s × (named c.node s ≡ a)
    of_first None is none_there = absurd (let few = none_there.1 in omega (arith, few))
    of_first (Some s) is there = (s, inl is, only_member (named c.node s) a there)

module _ (sets : SetsAsExpected) (forgeries : ForgeriesAreUnsigned) {S : Type 0} (n : NodeState S) (x : Piece) where
  -- what the set of this one item holds stands in the item
  held_alone : (f : Fields) (j : ℕ) (a : Authenticator) → x.fields ≡ f → IsHeld n.directory (insert none x) j a → Holds n.directory f a
  held_alone f j a is h =
      let (y, has, holds) = h.stands in
      let one : y ≡ x = elim ((sets.insert none x y).0 has) [ inl same ↦ same | inr old ↦ absurd (sets.none y old) ] in
      subst (λ (g : Fields). Holds n.directory g a) (ap (λ (p : Piece). p.fields) one ∙ is) holds

  owed_audit : (c : AuditChallenge) → x.fields ≡ form.Audit c → c.node ≡ n.account.me
      → ((s : Statement) → IsNamed c s → Contains (map stamp n.account.signed) (s.seq, s.hash)) → IsOwed n x
  owed_audit c is mine signed = record {
    challenge = ap is_challenge is;
    against = ap (is_against n.account.me) is ∙ eq-eqb _ _ mine;
    none_forged = forgeries.all_signed n.directory (insert none x) n.account.me (map stamp n.account.signed) each;
  }
    where
      each : (a : Authenticator) → IsHeld n.directory (insert none x) n.account.me a → Contains (map stamp n.account.signed) (stamp a)
      each a h =
          let (s, at, same) = held_named n.directory c a (held_alone (form.Audit c) n.account.me a is h) in
          subst (λ (b : Authenticator). Contains (map stamp n.account.signed) (stamp b)) same (signed s at)

  owed_send : (m : Message) → x.fields ≡ form.Send m → m.to ≡ n.account.me → IsValid n.directory x.fields → IsOwed n x
  owed_send m is mine valid = record {
    challenge = ap is_challenge is;
    against = ap (is_against n.account.me) is ∙ eq-eqb _ _ mine;
    none_forged = forgeries.all_signed n.directory (insert none x) n.account.me (map stamp n.account.signed) each;
  }
    where
      each : (a : Authenticator) → IsHeld n.directory (insert none x) n.account.me a → Contains (map stamp n.account.signed) (stamp a)
      each a h =
          let message = subst (λ (f : Fields). IsValid n.directory f) is valid in
          let of = only_member (sent m) a (held_alone (form.Send m) n.account.me a is h) in
          absurd (message.genuine.other (ap (λ (b : Authenticator). b.node) of ∙ h.of ∙ sym mine))

pub plain_owed : SetsAsExpected → ForgeriesAreUnsigned → (S : Type 0) → PlainChallengesAreOwed S
plain_owed sets forgeries S = record { audit = owed_audit sets forgeries; send = owed_send sets forgeries }
