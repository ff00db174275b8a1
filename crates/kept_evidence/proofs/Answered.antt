-- What the items of a group tell of challenges, all items tell.
use Rattle.std.proofs.Common.{◌≡◌, ℕ, zero, Bool, true, false, not, List, [], ◌∷◌, refl, sym, ap, ◌∙◌, ◌⊎◌, inl, inr, ⊎_elim, arith, length}
use Rattle.std.specs.Prelude.{◌&&◌, ◌==◌}
use Rattle.std.specs.List.{Contains, list_any}
use Rattle.std.proofs.lemmas.Bool.Decides.{Decides-eqb}
use Rattle.std.proofs.lemmas.List.Folds.{Any-from_list_any, list_any-from_Any}
use Rattle.item_forms.specs.Messages.{Message}
use Rattle.item_forms.specs.declared.forms.AuditChallenge.{AuditChallenge}
use Rattle.item_forms.specs.declared.forms.Fields.{Fields}
use Rattle.item_forms.specs.declared.forms.Fields.TheVariants as form
use Rattle.item_forms.specs.Groups.{Acknowledgements, AuditChallenges, IsInGroup, Segments, SendChallenges}
use Rattle.evidence_item.specs.Checking.{Checked}
use Rattle.evidence_item.specs.declared.findings.Findings.{Findings}
use Rattle.std.specs.Prelude.{Option}
use Rattle.evidence_set.specs.Challenges.{answers_audit, is_against}
use Rattle.evidence_set.proofs.AnswerTests.{answers_decide}
use Rattle.evidence_set.proofs.Joins.{same_test}
use Rattle.kept_evidence.specs.Kept.{IsGroupOf}
use Rattle.kept_evidence.specs.Telling.{is_answered, is_unanswered, told_answers, told_send}

-- ---- tests that some element passes

pub some_passes : {X : Type 0} (p : X → Bool) (xs : List X) → list_any p xs ≡ true → (x : X) × Contains xs x × (p x ≡ true)
some_passes p xs h = let any = Any-from_list_any p xs h in (any.1, (any.0, any.2, any.3), any.4)

pub one_suffices : {X : Type 0} (p : X → Bool) (xs : List X) (x : X) → Contains xs x → p x ≡ true → list_any p xs ≡ true
one_suffices p xs x has h = list_any-from_Any p xs (has.0, x, has.1, has.2, h)

-- A part with each element that passes has one where the whole has one.
pub any_of_part : {X : Type 0} (p : X → Bool) (all part : List X) → ((x : X) → Contains part x → Contains all x) → ((x : X) → Contains all x → p x ≡ true → Contains part x) → list_any p part ≡ list_any p all
any_of_part p all part into back = same_test (list_any p part) (list_any p all)
    (λ h. let one = some_passes p part h in one_suffices p all one.0 (into one.0 one.1) one.2)
    (λ h. let one = some_passes p all h in one_suffices p part one.0 (back one.0 one.1 one.2) one.2)

none_passes : {X : Type 0} (xs : List X) → list_any (λ (x : X). false) xs ≡ false
none_passes [] = refl
none_passes (x ∷ xs) = none_passes xs

-- ---- audit challenges

segment_of_audited : (c : AuditChallenge) (y : Fields) → answers_audit c y ≡ true → IsInGroup (Segments c.node) y
segment_of_audited c (form.Auth a) h = absurd cc
segment_of_audited c (form.Segment s) h = ((answers_decide [] (form.Audit c) (form.Segment s)).0 h).0
segment_of_audited c (form.Audit d) h = absurd cc
segment_of_audited c (form.Send m) h = absurd cc
segment_of_audited c (form.Ack a) h = absurd cc

-- An audit challenge is answered by a segment of its node, or not at all.
pub audit_answered : (c : AuditChallenge) (kept segments : List Checked) → IsGroupOf (Segments c.node) kept segments
    → list_any (λ (k : Checked). answers_audit c k.item.fields) segments ≡ list_any (λ (k : Checked). answers_audit c k.item.fields) kept
audit_answered c kept segments group = any_of_part (λ (k : Checked). answers_audit c k.item.fields) kept segments
    (λ k has. ((group k).0 has).0)
    (λ k has h. (group k).1 (has, segment_of_audited c k.item.fields h))

-- ---- send challenges

answers_of : (m : Message) (y : Fields) (f : Option Findings) → IsInGroup (Acknowledgements m) y → told_send m y f ≡ true
answers_of m (form.Auth a) f h = absurd h
answers_of m (form.Segment s) f h = absurd h
answers_of m (form.Audit c) f h = absurd h
answers_of m (form.Send n) f h = absurd h
answers_of m (form.Ack a) f h = (answers_decide [] (form.Send m) (form.Ack a)).1 h

first_holds : (a b : Bool) → (a && b) ≡ true → a ≡ true
first_holds true b h = refl
first_holds false b h = absurd cc

groups_of_answer : (m : Message) (y : Fields) (f : Option Findings) → told_send m y f ≡ true → IsInGroup (Acknowledgements m) y ⊎ IsInGroup (Segments m.to) y
groups_of_answer m (form.Auth a) f h = absurd cc
groups_of_answer m (form.Segment s) f h = inr ((Decides-eqb s.node m.to).0 (first_holds _ _ h))
groups_of_answer m (form.Audit c) f h = absurd cc
groups_of_answer m (form.Send n) f h = absurd cc
groups_of_answer m (form.Ack a) f h = inl ((answers_decide [] (form.Send m) (form.Ack a)).0 h)

first_of : {X : Type 0} (xs : List X) → (length xs == 0) ≡ false → (x : X) × Contains xs x
first_of [] some = absurd cc
first_of (x ∷ xs) some = (x, (zero, omega arith, refl))

none_of : {X : Type 0} (xs : List X) (x : X) → (length xs == 0) ≡ true → Contains xs x → ⊥
none_of xs x is has = let empty : length xs ≡ 0 = (Decides-eqb (length xs) 0).0 is in omega (arith, empty, has.1)

module _ (m : Message) (kept acks : List Checked) (acknowledge : IsGroupOf (Acknowledgements m) kept acks) where
  -- The message is answered where it is acknowledged.
  pub acknowledged : (length acks == 0) ≡ false → list_any (λ (k : Checked). told_send m k.item.fields k.findings) kept ≡ true
  acknowledged some =
      let one = first_of acks some in
      let both = (acknowledge one.0).0 one.1 in
      one_suffices (λ (k : Checked). told_send m k.item.fields k.findings) kept one.0 both.0 (answers_of m one.0.item.fields one.0.findings both.1)

  -- Where it is not, it is answered by a segment of its receiver, or not at all.
  pub send_answered : (length acks == 0) ≡ true → (segments : List Checked) → IsGroupOf (Segments m.to) kept segments
      → list_any (λ (k : Checked). told_send m k.item.fields k.findings) segments ≡ list_any (λ (k : Checked). told_send m k.item.fields k.findings) kept
  send_answered nothing segments group = any_of_part (λ (k : Checked). told_send m k.item.fields k.findings) kept segments
      (λ k has. ((group k).0 has).0)
      (λ k has h. ⊎_elim
      (λ (a : IsInGroup (Acknowledgements m) k.item.fields). absurd (none_of acks k nothing ((acknowledge k).1 (has, a))))
      (λ (s : IsInGroup (Segments m.to) k.item.fields). (group k).1 (has, s))
      (groups_of_answer m k.item.fields k.findings h))

-- ---- all challenges

-- What is no challenge is not answered.
pub not_answered : (kept : List Checked) (x z : Fields) → x ≡ z → ((c : Checked) → told_answers z c ≡ false) → is_answered kept x ≡ false
not_answered kept x z is never = same_test (is_answered kept x) false
    (λ h.
    let one = some_passes (told_answers x) kept h in
    sym (ap (λ (w : Fields). told_answers w one.0) is ∙ never one.0) ∙ one.2)
    (λ h. absurd cc)

groups_of_challenge : (j : ℕ) (x : Fields) → is_against j x ≡ true → IsInGroup (AuditChallenges j) x ⊎ IsInGroup SendChallenges x
groups_of_challenge j (form.Auth a) h = absurd cc
groups_of_challenge j (form.Segment s) h = absurd cc
groups_of_challenge j (form.Audit c) h = inl ((Decides-eqb c.node j).0 h)
groups_of_challenge j (form.Send m) h = inr tt
groups_of_challenge j (form.Ack a) h = absurd cc

-- A challenge against the node stands among its audit challenges or among the send challenges.
module _ (j : ℕ) (kept audits : List Checked) (audit : IsGroupOf (AuditChallenges j) kept audits) where
  abbrev p : Checked → Bool
  p c = is_unanswered kept j c.item.fields

  pub open_audit : list_any p audits ≡ true → list_any p kept ≡ true
  open_audit h = let one = some_passes p audits h in one_suffices p kept one.0 ((audit one.0).0 one.1).0 one.2

  pub open_send : (sends : List Checked) → IsGroupOf SendChallenges kept sends → list_any p audits ≡ false → list_any p sends ≡ list_any p kept
  open_send sends send none = any_of_part p kept sends
      (λ k has. ((send k).0 has).0)
      (λ k has h. ⊎_elim
      (λ (a : IsInGroup (AuditChallenges j) k.item.fields). let some = one_suffices p audits k ((audit k).1 (has, a)) h in absurd (cc (some, none)))
      (λ (s : IsInGroup SendChallenges k.item.fields). (send k).1 (has, s))
      (groups_of_challenge j k.item.fields (first_holds (is_against j k.item.fields) (not (is_answered kept k.item.fields)) h)))
