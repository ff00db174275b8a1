-- Which items answer a challenge.
use Rattle.std.proofs.Common.{◌≡◌, ◌≢◌, ℕ, Bool, true, false, List, [], Option, Some, None, refl, sym, ap, subst, ◌∙◌, ◌⊎◌, inl, inr, ⊎_elim}
use Rattle.std.specs.Prelude.{◌&&◌, slice_get}
use Rattle.std.specs.List.{Contains, list_any}
use Rattle.std.proofs.lemmas.Bool.Decides.{Decides-eqb}
use Rattle.std.proofs.lemmas.Option.{same_Some}
use Rattle.item_forms.specs.Messages.{Message}
use Rattle.item_forms.specs.declared.forms.Fields.{Fields}
use Rattle.item_forms.specs.declared.forms.Fields.TheVariants as form
use Rattle.item_forms.specs.Groups.{Acknowledgements, IsInGroup}
use Rattle.evidence_item.specs.declared.findings.Findings.{Findings}
use Rattle.evidence_item.specs.Checking.{Checked, is_segment}
use Rattle.item_forms.specs.declared.forms.AuditChallenge.{AuditChallenge}
use Rattle.evidence_set.specs.Challenges.{answers_audit, is_against}
use Rattle.evidence_set.proofs.AnswerTests.{answers_decide}
use Rattle.evidence_set.proofs.Joins.{same_test}
use Rattle.kept_evidence.specs.Telling.{IsSegmentOf, is_answered, told_answers, told_send}
use Rattle.kept_evidence.proofs.Answered.{one_suffices, some_passes}
use Rattle.kept_items.specs.Keeping.{subject}
use Rattle.node_tables.specs.declared.sending.Sending.{Sending}
use Rattle.node_tables.specs.declared.span.Span.{Span}
use Rattle.node_tables.specs.Places.{IsAcknowledged}
use Rattle.node_tables.specs.Receipts.{IsReceived, receipt_by}
use Rattle.node_tables.specs.within.Placing.{AreOthers, HasAcknowledgement, IsReceiptTold, answered_by, answers_at}
use Rattle.node_tables.proofs.Places.{at_contains, contains_at}
use Rattle.node_tables.proofs.Receipts.{receipt_told, told_receipt_at}
use Rattle.node_tables.proofs.Received.{some_item}

-- what answers a challenge against node j is a segment of it, or acknowledges the message
pub data IsAnswerer (j : ℕ) (x y : Fields) : Type 0 where
  segment : IsSegmentOf j y → IsAnswerer j x y
  acknowledgement : (m : Message) → x ≡ form.Send m → IsInGroup (Acknowledgements m) y → subject y ≡ Some j → IsAnswerer j x y

first_holds : (a b : Bool) → (a && b) ≡ true → a ≡ true
first_holds true b h = refl
first_holds false b h = absurd cc

audit_answerer : (j : ℕ) (c : AuditChallenge) (y : Fields) → c.node ≡ j → answers_audit c y ≡ true → IsAnswerer j (form.Audit c) y
audit_answerer j c (form.Auth a) own h = absurd cc
audit_answerer j c (form.Segment s) own h = segment (((answers_decide [] (form.Audit c) (form.Segment s)).0 h).0 ∙ own)
audit_answerer j c (form.Audit d) own h = absurd cc
audit_answerer j c (form.Send m) own h = absurd cc
audit_answerer j c (form.Ack a) own h = absurd cc

send_answerer : (j : ℕ) (m : Message) (y : Fields) (f : Option Findings) → m.to ≡ j → told_send m y f ≡ true → IsAnswerer j (form.Send m) y
send_answerer j m (form.Auth a) f own h = absurd cc
send_answerer j m (form.Segment s) f own h = segment ((Decides-eqb s.node m.to).0 (first_holds _ _ h) ∙ own)
send_answerer j m (form.Audit d) f own h = absurd cc
send_answerer j m (form.Send n) f own h = absurd cc
send_answerer j m (form.Ack a) f own h =
    let same = (answers_decide [] (form.Send m) (form.Ack a)).0 h in
    acknowledgement m refl same (ap (λ n. Some n) (same.1 ∙ own))

pub answerer : (j : ℕ) (x : Fields) (d : Checked) → is_against j x ≡ true → told_answers x d ≡ true → IsAnswerer j x d.item.fields
answerer j (form.Auth a) d against h = absurd cc
answerer j (form.Segment s) d against h = absurd cc
answerer j (form.Audit c) d against h = audit_answerer j c d.item.fields ((Decides-eqb c.node j).0 against) h
answerer j (form.Send m) d against h = send_answerer j m d.item.fields d.findings ((Decides-eqb m.to j).0 against) h
answerer j (form.Ack a) d against h = absurd cc

-- an answer is of the challenged node
pub answer_of : (j : ℕ) (x y : Fields) → IsAnswerer j x y → subject y ≡ Some j
answer_of j x y (segment s) = of_segment j y s
  where
    of_segment : (j : ℕ) (y : Fields) → IsSegmentOf j y → subject y ≡ Some j
    of_segment j (form.Auth a) h = absurd h
    of_segment j (form.Segment s) h = ap Some h
    of_segment j (form.Audit c) h = absurd h
    of_segment j (form.Send m) h = absurd h
    of_segment j (form.Ack a) h = absurd h
answer_of j x y (acknowledgement m is group own) = own

-- a challenge is no segment, and answers nothing
pub no_segment : (j k : ℕ) (x : Fields) → is_against j x ≡ true → IsSegmentOf k x → ⊥
no_segment j k (form.Auth a) against h = h
no_segment j k (form.Segment s) against h = cc
no_segment j k (form.Audit c) against h = h
no_segment j k (form.Send m) against h = h
no_segment j k (form.Ack a) against h = h

acknowledges : (m : Message) (y : Fields) (f : Option Findings) → IsInGroup (Acknowledgements m) y → told_send m y f ≡ true
acknowledges m (form.Auth a) f h = absurd h
acknowledges m (form.Segment s) f h = absurd h
acknowledges m (form.Audit c) f h = absurd h
acknowledges m (form.Send n) f h = absurd h
acknowledges m (form.Ack a) f h = (answers_decide [] (form.Send m) (form.Ack a)).1 h

pub answered_at : (items : List Checked) (i n : ℕ) (c d : Checked) → slice_get items i ≡ Some c → slice_get items n ≡ Some d → answers_at items i n ≡ told_answers c.item.fields d
answered_at items i n c d at_i at_n = ap (λ (o : Option Checked). answered_by o (slice_get items n)) at_i ∙ ap (answered_by (Some c)) at_n

pub answered_means : (o p : Option Checked) → answered_by o p ≡ true → (c d : Checked) × (o ≡ Some c) × (p ≡ Some d) × (told_answers c.item.fields d ≡ true)
answered_means None p h = absurd cc
answered_means (Some c) None h = absurd cc
answered_means (Some c) (Some d) h = (c, d, refl, refl, h)

-- a segment is acknowledged by nothing
pub segment_unacknowledged : (items : List Checked) (y : Fields) → is_segment y ≡ true → HasAcknowledgement items y → ⊥
segment_unacknowledged items (form.Auth a) is h = h
segment_unacknowledged items (form.Segment s) is h = h
segment_unacknowledged items (form.Audit c) is h = h
segment_unacknowledged items (form.Send m) is h = absurd cc
segment_unacknowledged items (form.Ack a) is h = h

module _ (items : List Checked) (j place : ℕ) (x : Checked) (here : slice_get items place ≡ Some x) (spans : List Span) where
  pub by_segment : list_any (λ (p : Span). answers_at items place p.item) spans ≡ true → is_answered items x.item.fields ≡ true
  by_segment h =
      let one = some_passes (λ (p : Span). answers_at items place p.item) spans h in
      let t = answered_means (slice_get items place) (slice_get items one.0.item) one.2 in
      let same : t.0 ≡ x = same_Some t.0 x (sym t.2 ∙ here) in
      one_suffices (told_answers x.item.fields) items t.1 (contains_at items one.0.item t.1 t.3) (subst (λ (k : Checked). told_answers k.item.fields t.1 ≡ true) same t.4)

  pub by_acknowledgement : HasAcknowledgement items x.item.fields → is_answered items x.item.fields ≡ true
  by_acknowledgement h = by_fields x.item.fields h
    where
      by_fields : (y : Fields) → HasAcknowledgement items y → is_answered items y ≡ true
      by_fields (form.Auth a) h = absurd h
      by_fields (form.Segment s) h = absurd h
      by_fields (form.Audit c) h = absurd h
      by_fields (form.Send m) (c, has, ack) = one_suffices (told_answers (form.Send m)) items c has (acknowledges m c.item.fields c.findings ack)
      by_fields (form.Ack a) h = absurd h

  has_acknowledgement : (y : Fields) (m : Message) → y ≡ form.Send m → IsAcknowledged items m → HasAcknowledgement items y
  has_acknowledgement y m is h = subst (HasAcknowledgement items) (sym is) h

  module _ (against : is_against j x.item.fields ≡ true) (others : AreOthers items j place spans) where
    pub answered_so : is_answered items x.item.fields ≡ true → (list_any (λ (p : Span). answers_at items place p.item) spans ≡ true) ⊎ HasAcknowledgement items x.item.fields
    answered_so h =
        let one = some_passes (told_answers x.item.fields) items h in
        let d = one.0 in
        let at = at_contains items d one.1 in
        by_answerer d at.0 at.1 one.1 one.2 (answerer j x.item.fields d against one.2)
      where
        by_answerer : (d : Checked) (i : ℕ) → slice_get items i ≡ Some d → Contains items d → told_answers x.item.fields d ≡ true → IsAnswerer j x.item.fields d.item.fields
            → (list_any (λ (p : Span). answers_at items place p.item) spans ≡ true) ⊎ HasAcknowledgement items x.item.fields
        by_answerer d i at has h (segment s) =
            let other : i ≢ place = λ same. no_segment j j x.item.fields against (subst (λ (k : Checked). IsSegmentOf j k.item.fields) (same_Some d x (sym at ∙ ap (slice_get items) same ∙ here)) s) in
            let stands = (others i).1 ((d, at, s), other) in
            inl (one_suffices (λ (p : Span). answers_at items place p.item) spans stands.0 stands.1 (ap (answers_at items place) stands.2 ∙ answered_at items place i x d here at ∙ h))
        by_answerer d i at has h (acknowledgement m is group own) = inr (has_acknowledgement x.item.fields m is (d, has, group))

    -- So where no acknowledgement was found the segments tell whether the challenge is answered.
    pub answered_by_spans : (HasAcknowledgement items x.item.fields → ⊥) → list_any (λ (p : Span). answers_at items place p.item) spans ≡ is_answered items x.item.fields
    answered_by_spans none = same_test (list_any (λ (p : Span). answers_at items place p.item) spans) (is_answered items x.item.fields)
        (λ h. by_segment h)
        (λ h. ⊎_elim (λ some. some) (λ a. absurd (none a)) (answered_so h))

-- ---- receipts

some_entry : (j : ℕ) (m : Message) (n : ℕ) (d : Checked) (items : List Checked) → slice_get items n ≡ Some d → told_send m d.item.fields d.findings ≡ true → IsSegmentOf j d.item.fields → IsReceived items (record { from = m.from; to = m.to; seq = m.seq })
some_entry j m n d items at h own =
    let r = told_receipt_at m d.item.fields d.findings h j own in
    (n, r.0, ap (λ (o : Option Checked). receipt_by o r.0) at ∙ r.1)

receipt_answers : (m : Message) (items : List Checked) → IsReceived items (record { from = m.from; to = m.to; seq = m.seq }) → is_answered items (form.Send m) ≡ true
receipt_answers m items (n, k, h) =
    let s : Sending = record { from = m.from; to = m.to; seq = m.seq } in
    let (d, at) = some_item (slice_get items n) k s h in
    one_suffices (told_answers (form.Send m)) items d (contains_at items n d at) (receipt_told m d.item.fields d.findings k (sym (ap (λ (o : Option Checked). receipt_by o k) at) ∙ h))

-- Where no acknowledgement was found, receipts tell whether a send challenge is answered.
pub answered_by_receipts : (items : List Checked) (j : ℕ) (x : Fields) → is_against j x ≡ true → (b : Bool) → IsReceiptTold items x b → (HasAcknowledgement items x → ⊥) → b ≡ is_answered items x
answered_by_receipts items j (form.Auth a) against b (s, is, told) none = absurd cc
answered_by_receipts items j (form.Segment t) against b (s, is, told) none = absurd cc
answered_by_receipts items j (form.Audit c) against b (s, is, told) none = absurd cc
answered_by_receipts items j (form.Send m) against b (s, is, told) none =
    let t : Sending = record { from = m.from; to = m.to; seq = m.seq } in
    let same : t ≡ s = same_Some t s is in
    same_test b (is_answered items (form.Send m))
    (λ h. receipt_answers m items (subst (IsReceived items) (sym same) (told.0 h)))
    (λ h.
    let one = some_passes (told_answers (form.Send m)) items h in
    let (n, at) = at_contains items one.0 one.1 in
    told.1 (subst (IsReceived items) same (by_answerer one.0 n at one.1 one.2 (answerer j (form.Send m) one.0 against one.2))))
  where
    by_answerer : (d : Checked) (n : ℕ) → slice_get items n ≡ Some d → Contains items d → told_answers (form.Send m) d ≡ true → IsAnswerer j (form.Send m) d.item.fields → IsReceived items (record { from = m.from; to = m.to; seq = m.seq })
    by_answerer d n at has h (segment own) = some_entry j m n d items at h own
    by_answerer d n at has h (acknowledgement k is group own) = absurd (none (subst (HasAcknowledgement items) (sym is) (d, has, group)))
answered_by_receipts items j (form.Ack a) against b (s, is, told) none = absurd cc
