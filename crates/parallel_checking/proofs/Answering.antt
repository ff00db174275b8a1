-- Two checks of one item give one answer.
use Rattle.std.proofs.Common.{◌≡◌, ◌⊎◌, ⊎_elim, inl, inr, Option, Some, None, Ok, Err, IfSome, refl, sym, ap, ◌∙◌}
use Rattle.log_chain.specs.History.{unless}
use Rattle.authenticators.specs.Directory.{Listing}
use Rattle.replay_verifier.specs.Meaning.{Meaning}
use Rattle.item_forms.specs.declared.forms.Fields.{Fields}
use Rattle.item_forms.specs.declared.forms.Fields.TheVariants as form
use Rattle.item_forms.specs.Pieces.{Piece}
use Rattle.evidence_item.specs.declared.fault.ItemFault.{ItemFault}
use Rattle.evidence_item.specs.declared.fault.ItemFault.TheVariants as fault
use Rattle.evidence_item.specs.declared.findings.Findings.{Findings}
use Rattle.evidence_item.specs.Checking.{AreFindings, Checked, IsFound}
use Rattle.evidence_item.specs.CheckingLaws.{FindingsAreOne, VerdictsAreOne}
use Rattle.evidence_item.specs.Validity.{fault_of}
use Rattle.parallel_checking.specs.Checks.{AnswersAreOne, IsAnswer}

given : (o : Option ItemFault) (x y : Piece) → unless o x ≡ Ok y → y ≡ x
given None x y e = cc e
given (Some f) x y e = absurd (cc e)

not_missing : (ds : Listing) (x : Fields) (f : Findings) → IsFound x None → AreFindings ds x f → ⊥
not_missing ds (form.Auth x) f found are = cc are
not_missing ds (form.Segment x) f found are = cc found
not_missing ds (form.Audit x) f found are = cc are
not_missing ds (form.Send x) f found are = cc found
not_missing ds (form.Ack x) f found are = cc found

one_found : FindingsAreOne → (ds : Listing) (x : Fields) (f g : Option Findings) → IfSome f (AreFindings ds x) → IfSome g (AreFindings ds x) → IsFound x f → IsFound x g → f ≡ g
one_found one ds x None None a b p q = refl
one_found one ds x None (Some g) a b p q = absurd (not_missing ds x g p b)
one_found one ds x (Some f) None a b p q = absurd (not_missing ds x f q a)
one_found one ds x (Some f) (Some g) a b p q = ap Some (one ds x f g a b)

module _ {S : Type 0} (verdicts : VerdictsAreOne S) (findings : FindingsAreOne) (ds : Listing) (program : Meaning S) (x : Piece) where
  -- What is checked is the item itself.
  itself : (c : Checked) → IsAnswer ds program x (Ok c) → c.item ≡ x
  itself c a = given (fault_of ds x.fields) x c.item a.exact

  checked_once : (c d : Checked) → IsAnswer ds program x (Ok c) → IsAnswer ds program x (Ok d) → c ≡ d
  checked_once c d a b =
      let p : c.item ≡ x = itself c a in
      let q : d.item ≡ x = itself d b in
      let same : c.item ≡ d.item = p ∙ sym q in
      let v : c.verdict ≡ d.verdict = verdicts ds program x.fields c.verdict d.verdict (rw (sym p) a.checked.verdict) (rw (sym q) b.checked.verdict) in
      let f : c.findings ≡ d.findings = one_found findings ds x.fields c.findings d.findings (rw (sym p) a.checked.findings) (rw (sym q) b.checked.findings) a.found b.found in
      λ i. record { item = same i; verdict = v i; findings = f i }

  refused_once : (e f : ItemFault) → IsAnswer ds program x (Err e) → IsAnswer ds program x (Err f) → (e ≡ fault.Memory) ⊎ (f ≡ fault.Memory) ⊎ (e ≡ f)
  refused_once e f a b =
      ⊎_elim (λ (m : e ≡ fault.Memory). inl m)
      (λ (p : unless (fault_of ds x.fields) x ≡ Err e).
      ⊎_elim (λ (m : f ≡ fault.Memory). inr (inl m)) (λ (q : unless (fault_of ds x.fields) x ≡ Err f). let same : e ≡ f = cc (p, q) in inr (inr same)) b.exact)
      a.exact

  one_refused : (c : Checked) (f : ItemFault) → IsAnswer ds program x (Ok c) → IsAnswer ds program x (Err f) → f ≡ fault.Memory
  one_refused c f a b = ⊎_elim (λ (m : f ≡ fault.Memory). m) (λ (q : unless (fault_of ds x.fields) x ≡ Err f). absurd (cc (a.exact, q))) b.exact

pub one_answer : {S : Type 0} → VerdictsAreOne S → FindingsAreOne → AnswersAreOne S
one_answer verdicts findings ds program x (Ok c) (Ok d) a b = inr (inr (ap Ok (checked_once verdicts findings ds program x c d a b)))
one_answer verdicts findings ds program x (Ok c) (Err f) a b = inr (inl (ap Err (one_refused verdicts findings ds program x c f a b)))
one_answer verdicts findings ds program x (Err e) (Ok d) a b = inl (ap Err (one_refused verdicts findings ds program x d e b a))
one_answer verdicts findings ds program x (Err e) (Err f) a b =
    ⊎_elim (λ (m : e ≡ fault.Memory). inl (ap Err m))
    (λ (o : (f ≡ fault.Memory) ⊎ (e ≡ f)). ⊎_elim (λ (m : f ≡ fault.Memory). inr (inl (ap Err m))) (λ (same : e ≡ f). inr (inr (ap Err same))) o)
    (refused_once verdicts findings ds program x e f a b)
