-- What exposes a node convicts it: the statements and the segments that are kept are valid.
use Rattle.std.proofs.Common.{◌≡◌, ℕ, true, List, [], ◌∷◌, sym, subst, ⊎_elim}
use Rattle.std.specs.Prelude.{Option}
use Rattle.std.specs.List.{Contains}
use Rattle.authenticators.specs.declared.authenticator.Authenticator.{Authenticator}
use Rattle.authenticators.specs.StatementSet.{Conflict}
use Rattle.authenticators.specs.Directory.{Listing}
use Rattle.replay_verifier.specs.declared.verdict.Verdict.{Verdict}
use Rattle.replay_verifier.specs.Meaning.{Meaning}
use Rattle.replay_verifier.specs.ReplayLaws.{DeviatingListsDoNotConform}
use Rattle.item_forms.specs.declared.forms.Fields.{Fields}
use Rattle.item_forms.specs.declared.forms.Fields.TheVariants as form
use Rattle.item_forms.specs.declared.forms.Segment.{Segment}
use Rattle.proofs.specs.declared.proof.Parts.{Parts}
use Rattle.proofs.specs.declared.proof.Parts.TheVariants as parts
use Rattle.proofs.specs.Contradictions.{Contradicts}
use Rattle.proofs.specs.Convicting.{Convicts}
use Rattle.proofs.specs.ProofTexts.{items_of}
use Rattle.proofs.proofs.Contradicting.{contradicts-decides}
use Rattle.evidence_item.specs.Checking.{Checked, IsOwnVerdict}
use Rattle.evidence_item.specs.CheckingLaws.{ValidItemsAreSigned}
use Rattle.evidence_item.specs.Statements.{IsSigned, statements_of}
use Rattle.evidence_item.specs.Validity.{IsValid}
use Rattle.evidence_set.specs.Held.{Holds}
use Rattle.evidence_set.proofs.WhatIsHeld.{lists_what_is_held}
use Rattle.kept_evidence.specs.Kept.{IsStore}
use Rattle.kept_evidence.specs.Telling.{AreTwo, IsDenial, IsDeviation, IsSegmentOf, denies, deviates}
use Rattle.kept_evidence.proofs.Exposures.{departs}

-- ---- signatures

module _ (ds : Listing) (signed : ValidItemsAreSigned) where
  stated_is_signed : (x : Fields) (a : Authenticator) → IsValid ds x → Contains (statements_of x) a → IsSigned ds a
  stated_is_signed x a valid has = subst (λ (b : Authenticator). IsSigned ds b) has.2 (signed.statements ds x valid has.0 a has.1)

  holds_signed : (x : Fields) (a : Authenticator) → IsValid ds x → Holds ds x a → IsSigned ds a
  holds_signed (form.Auth b) a valid h = stated_is_signed (form.Auth b) a valid h
  holds_signed (form.Segment s) a valid h = ⊎_elim
      (λ here. stated_is_signed (form.Segment s) a valid here)
      (λ (e, has, q). subst (λ (b : Authenticator). IsSigned ds b) (sym q.is) q.genuine.signed)
      h
  holds_signed (form.Audit c) a valid h = stated_is_signed (form.Audit c) a valid h
  holds_signed (form.Send m) a valid h = stated_is_signed (form.Send m) a valid h
  holds_signed (form.Ack b) a valid h = stated_is_signed (form.Ack b) a valid h

  module _ {S : Type 0} (program : Meaning S) (kept : List Checked) (held : List Authenticator) (store : IsStore ds program kept held) where
    -- Each statement that is held is signed.
    pub held_is_signed : (a : Authenticator) → Contains held a → IsSigned ds a
    held_is_signed a has =
        let (c, is_kept, stands) = (store.statements a).0 has in
        holds_signed c.item.fields a (store.items.whole c is_kept).checked.valid ((lists_what_is_held ds c.item.fields a).0 stands)

-- ---- parts

module _ {S : Type 0} (ds : Listing) (program : Meaning S) (j : ℕ) where
  two_by : (p : Parts) (a b : Authenticator) → items_of p ≡ form.Auth a ∷ form.Auth b ∷ [] → IsSigned ds a → IsSigned ds b → a.node ≡ j → Conflict a b → Convicts ds program j p
  two_by (parts.TwoAuths c d) a b is one other of conflict =
      let first : a ≡ c = cc in
      let second : b ≡ d = cc in (
        subst (λ (x : Authenticator). IsSigned ds x) first one,
        subst (λ (x : Authenticator). IsSigned ds x) second other,
        subst (λ (x : Authenticator). x.node ≡ j) first of,
        subst (λ (x : Authenticator). Conflict x d) first (subst (λ (x : Authenticator). Conflict a x) second conflict),
      )
  two_by (parts.AuthSegment c s) a b is one other of conflict = absurd cc
  two_by (parts.Nonconforming s) a b is one other of conflict = absurd cc

  denial_by : (p : Parts) (a : Authenticator) (s : Segment) → items_of p ≡ form.Auth a ∷ form.Segment s ∷ [] → IsSigned ds a → IsValid ds (form.Segment s) → a.node ≡ j → s.node ≡ j → Contradicts a.seq a.hash s → Convicts ds program j p
  denial_by (parts.TwoAuths c d) a s is signed valid of node h = absurd cc
  denial_by (parts.AuthSegment c t) a s is signed valid of node h =
      let first : a ≡ c = cc in
      let second : s ≡ t = cc in (
        subst (λ (x : Authenticator). IsSigned ds x) first signed,
        subst (λ (x : Segment). IsValid ds (form.Segment x)) second valid,
        subst (λ (x : Authenticator). x.node ≡ j) first of,
        subst (λ (x : Segment). x.node ≡ j) second node,
        subst (λ (x : Authenticator). Contradicts x.seq x.hash t) first (subst (λ (x : Segment). Contradicts a.seq a.hash x) second h),
      )
  denial_by (parts.Nonconforming t) a s is signed valid of node h = absurd cc

  deviation_by : (p : Parts) (s : Segment) → items_of p ≡ form.Segment s ∷ [] → Convicts ds program j (parts.Nonconforming s) → Convicts ds program j p
  deviation_by (parts.TwoAuths c d) s is h = absurd cc
  deviation_by (parts.AuthSegment c t) s is h = absurd cc
  deviation_by (parts.Nonconforming t) s is h = let same : s ≡ t = cc in subst (λ (x : Segment). Convicts ds program j (parts.Nonconforming x)) same h

  denial_of : (p : Parts) (a : Authenticator) (x : Fields) → items_of p ≡ form.Auth a ∷ x ∷ [] → IsSigned ds a → IsValid ds x → a.node ≡ j → IsSegmentOf j x → denies a x ≡ true → Convicts ds program j p
  denial_of p a (form.Auth b) is signed valid of node h = absurd node
  denial_of p a (form.Segment s) is signed valid of node h = denial_by p a s is signed valid of node ((contradicts-decides a.seq a.hash s).0 h)
  denial_of p a (form.Audit c) is signed valid of node h = absurd node
  denial_of p a (form.Send m) is signed valid of node h = absurd node
  denial_of p a (form.Ack b) is signed valid of node h = absurd node

  module _ (differ : DeviatingListsDoNotConform S) where
    deviation_of : (p : Parts) (x : Fields) (v : Option Verdict) → items_of p ≡ x ∷ [] → IsValid ds x → IsOwnVerdict ds program x v → IsSegmentOf j x → deviates v ≡ true → Convicts ds program j p
    deviation_of p (form.Auth b) v is valid own node h = absurd node
    deviation_of p (form.Segment s) v is valid own node h = deviation_by p s is (valid, node, departs ds program differ s v own h)
    deviation_of p (form.Audit c) v is valid own node h = absurd node
    deviation_of p (form.Send m) v is valid own node h = absurd node
    deviation_of p (form.Ack b) v is valid own node h = absurd node

    module _ (signed : ValidItemsAreSigned) (kept : List Checked) (held : List Authenticator) (store : IsStore ds program kept held) where
      is_signed : (a : Authenticator) → Contains held a → IsSigned ds a
      is_signed = held_is_signed ds signed program kept held store

      pub two_convict : (p : Parts) (a b : Authenticator) → items_of p ≡ form.Auth a ∷ form.Auth b ∷ [] → AreTwo j held a b → Convicts ds program j p
      two_convict p a b is h = two_by p a b is (is_signed a h.one) (is_signed b h.other) h.of h.conflict

      pub denial_convicts : (p : Parts) (a : Authenticator) (c : Checked) → items_of p ≡ form.Auth a ∷ c.item.fields ∷ [] → IsDenial j held kept a c → Convicts ds program j p
      denial_convicts p a c is h =
          denial_of p a c.item.fields is (is_signed a h.statement) (store.items.whole c h.segment.contains).checked.valid h.of h.segment.segment h.contradicts

      pub deviation_convicts : (p : Parts) (c : Checked) → items_of p ≡ c.item.fields ∷ [] → IsDeviation j kept c → Convicts ds program j p
      deviation_convicts p c is h =
          let checked = (store.items.whole c h.segment.contains).checked in
          deviation_of p c.item.fields c.verdict is checked.valid checked.verdict h.segment.segment h.verdict
