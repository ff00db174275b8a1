-- What comes to a table with an item, beside its statements.
use Rattle.std.proofs.Common.{◌≡◌, ℕ, ◌-◌, true, false, not, List, length, Option, Some, None, refl, sym, ap, subst, ◌∙◌, ◌⊎◌, inl, inr, ⊎_elim, arith}
use Rattle.std.specs.Prelude.{◌↔◌, slice_get}
use Rattle.std.specs.List.{Contains, filter}
use Rattle.std.proofs.lemmas.Bool.Decides.{Decides-eqb}
use Rattle.std.proofs.lemmas.Option.{same_Some}
use Rattle.item_forms.specs.declared.forms.Fields.{Fields}
use Rattle.item_forms.specs.declared.forms.Fields.TheVariants as form
use Rattle.item_forms.specs.Messages.{Message}
use Rattle.evidence_item.specs.declared.findings.Findings.{Findings}
use Rattle.evidence_item.specs.Checking.{Checked, is_segment}
use Rattle.item_forms.specs.declared.forms.AuditChallenge.{AuditChallenge}
use Rattle.evidence_set.specs.Challenges.{answers_audit, is_against}
use Rattle.kept_evidence.specs.Telling.{IsSegmentOf, is_answered, told_answers, told_send}
use Rattle.kept_items.specs.Keeping.{subject}
use Rattle.kept_evidence.proofs.Members.{passes, passing}
use Rattle.node_tables.specs.declared.table.Table.{Table}
use Rattle.node_tables.specs.declared.hashes.Hashes.{Hashes}
use Rattle.node_tables.specs.Hashed.{AreSame}
use Rattle.node_tables.specs.Places.{IsAgainstAt, IsOpenAt}
use Rattle.node_tables.specs.Tables.{IsSegmentAt, HasSpanAt}
use Rattle.node_tables.specs.within.Bringing.{SegmentStep}
use Rattle.node_tables.specs.within.Coming.{BodyCame, BodyPut, IsBodyDue}
use Rattle.node_tables.specs.within.Placing.{BodyStep, IsAckAt, answered_by, answers_at, is_ack, subject_by}
use Rattle.item_forms.specs.declared.forms.AckItem.{AckItem}
use Rattle.node_tables.proofs.Received.{told_receipts}
use Rattle.node_tables.proofs.Reserved.{rooms_here, rooms_still}
use Rattle.node_tables.proofs.Answerers.{answer_of, answered_means, answerer}
use Rattle.node_tables.proofs.Hashed.{asked_roomier, asked_still}
use Rattle.node_tables.proofs.Bools.{both, false_by, open_so, turned}

-- What `retain` leaves are those that the item does not answer.
pub closed : (items : List Checked) (n : ℕ) (old new : List ℕ) → new ≡ filter (λ i. not (answers_at items i n)) old → (i : ℕ) → Contains new i ↔ (Contains old i × (answers_at items i n ≡ false))
closed items n old new is i = subst (λ (l : List ℕ). Contains l i ↔ (Contains old i × (answers_at items i n ≡ false))) (sym is) (
  λ has. let t = passing (λ (k : ℕ). not (answers_at items k n)) old i has in (t.0, turned (answers_at items i n) t.1),
  λ h. passes (λ (k : ℕ). not (answers_at items k n)) old i h.0 (ap not h.1),
)

-- a segment is no challenge, nor is an acknowledgement
not_against_segment : (j k : ℕ) (x : Fields) → IsSegmentOf k x → is_against j x ≡ false
not_against_segment j k (form.Auth a) h = refl
not_against_segment j k (form.Segment s) h = refl
not_against_segment j k (form.Audit c) h = absurd h
not_against_segment j k (form.Send m) h = absurd h
not_against_segment j k (form.Ack a) h = refl

not_against_ack : (j : ℕ) (x : Fields) → is_ack x ≡ true → is_against j x ≡ false
not_against_ack j (form.Auth a) h = refl
not_against_ack j (form.Segment s) h = refl
not_against_ack j (form.Audit c) h = absurd cc
not_against_ack j (form.Send m) h = absurd cc
not_against_ack j (form.Ack a) h = refl

ack_no_segment : (j : ℕ) (x : Fields) → is_ack x ≡ true → IsSegmentOf j x → ⊥
ack_no_segment j (form.Auth a) h s = s
ack_no_segment j (form.Segment t) h s = cc
ack_no_segment j (form.Audit c) h s = s
ack_no_segment j (form.Send m) h s = s
ack_no_segment j (form.Ack a) h s = s

pub ack_unsegmented : (items : List Checked) (j n : ℕ) → IsAckAt items n → IsSegmentAt items j n → ⊥
ack_unsegmented items j n (c, here, ack) (d, at, own) = ack_no_segment j c.item.fields ack (subst (λ (k : Checked). IsSegmentOf j k.item.fields) (same_Some d c (sym at ∙ here)) own)

-- what is no challenge against the node is not open
not_open : (items : List Checked) (j n : ℕ) (c : Checked) → slice_get items n ≡ Some c → is_against j c.item.fields ≡ false → IsOpenAt items j n → ⊥
not_open items j n c here never (d, at, h) =
    let same : d ≡ c = same_Some d c (sym at ∙ here) in
    let yes : is_against j c.item.fields ≡ true = subst (λ (k : Checked). is_against j k.item.fields ≡ true) same (both (is_against j d.item.fields) (is_answered items d.item.fields) h).0 in
    cc (never, yes)

module _ (items : List Checked) (n : ℕ) (t u : Table) where
  closing_step : u.node ≡ t.node → u.rows ≡ t.rows → u.receipts ≡ t.receipts → (j : ℕ) → t.node ≡ j
      → ((i : ℕ) → HasSpanAt u.spans.items i ↔ (HasSpanAt t.spans.items i ⊎ ((i ≡ n) × IsSegmentAt items t.node n)))
      → (IsOpenAt items t.node n → ⊥) → u.unanswered.items ≡ filter (λ i. not (answers_at items i n)) t.unanswered.items → BodyStep items n t u
  closing_step node rows receipts j own stands closed_here is = record {
    node = node;
    rows = rows;
    receipts = receipts;
    stands = stands;
    unanswered = λ i. let c = closed items n t.unanswered.items u.unanswered.items is i in (
      λ has. inl (c.0 has),
      λ h. ⊎_elim (λ old. c.1 old) (λ (e : (i ≡ n) × IsOpenAt items t.node n). absurd (closed_here e.1)) h,
    );
  }

  pub segment_closes : (v : Table) → SegmentStep items n t v → IsSegmentAt items t.node n → u.node ≡ v.node → u.rows ≡ v.rows → u.receipts ≡ v.receipts → u.spans ≡ v.spans → u.unanswered.items ≡ filter (λ i. not (answers_at items i n)) v.unanswered.items → BodyStep items n t u
  segment_closes v step segment node rows receipts spans is = closing_step (node ∙ step.node) (rows ∙ step.rows) (receipts ∙ step.receipts) t.node refl
      (λ i. subst (λ w. HasSpanAt w.items i ↔ (HasSpanAt t.spans.items i ⊎ ((i ≡ n) × IsSegmentAt items t.node n))) (sym spans) (
        λ h. ⊎_elim (λ old. inl old) (λ new. inr (new, segment)) ((step.stands i).0 h),
        λ h. (step.stands i).1 (⊎_elim (λ old. inl old) (λ (e : (i ≡ n) × IsSegmentAt items t.node n). inr e.0) h),
      ))
      (not_open items t.node n segment.0 segment.1 (not_against_segment t.node t.node segment.0.item.fields segment.2))
      (is ∙ ap (λ w. filter (λ i. not (answers_at items i n)) w.items) step.unanswered)

  pub ack_closes : IsAckAt items n → u.node ≡ t.node → u.rows ≡ t.rows → u.receipts ≡ t.receipts → u.spans ≡ t.spans → u.unanswered.items ≡ filter (λ i. not (answers_at items i n)) t.unanswered.items → BodyStep items n t u
  ack_closes (c, here, ack) node rows receipts spans is = closing_step node rows receipts t.node refl
      (λ i. (
        λ h. inl (subst (λ w. HasSpanAt w.items i) spans h),
        λ h. ⊎_elim (λ old. subst (λ w. HasSpanAt w.items i) (sym spans) old) (λ (e : (i ≡ n) × IsSegmentAt items t.node n).
            absurd (ack_no_segment t.node c.item.fields ack (subst (λ (k : Checked). IsSegmentOf t.node k.item.fields) (same_Some e.1.0 c (sym e.1.1 ∙ here)) e.1.2))) h,
      ))
      (not_open items t.node n c here (not_against_ack t.node c.item.fields ack))
      is

-- ---- challenges

-- what is a challenge answers nothing
no_audit_answer : (j : ℕ) (c : AuditChallenge) (y : Fields) → is_against j y ≡ true → answers_audit c y ≡ false
no_audit_answer j c (form.Auth a) h = absurd cc
no_audit_answer j c (form.Segment s) h = absurd cc
no_audit_answer j c (form.Audit d) h = refl
no_audit_answer j c (form.Send n) h = refl
no_audit_answer j c (form.Ack a) h = absurd cc

no_send_answer : (j : ℕ) (m : Message) (y : Fields) (f : Option Findings) → is_against j y ≡ true → told_send m y f ≡ false
no_send_answer j m (form.Auth a) f h = absurd cc
no_send_answer j m (form.Segment s) f h = absurd cc
no_send_answer j m (form.Audit d) f h = refl
no_send_answer j m (form.Send n) f h = refl
no_send_answer j m (form.Ack a) f h = absurd cc

no_answer : (j : ℕ) (x : Fields) (d : Checked) → is_against j d.item.fields ≡ true → told_answers x d ≡ false
no_answer j (form.Auth a) d h = refl
no_answer j (form.Segment s) d h = refl
no_answer j (form.Audit c) d h = no_audit_answer j c d.item.fields h
no_answer j (form.Send m) d h = no_send_answer j m d.item.fields d.findings h
no_answer j (form.Ack a) d h = refl

not_answered_by : (j : ℕ) (o p : Option Checked) (c : Checked) → p ≡ Some c → is_against j c.item.fields ≡ true → answered_by o p ≡ false
not_answered_by j None p c is h = refl
not_answered_by j (Some d) p c is h = ap (answered_by (Some d)) is ∙ no_answer j d.item.fields c h

against_no_segment : (j k : ℕ) (x : Fields) → is_against j x ≡ true → IsSegmentOf k x → ⊥
against_no_segment j k x h s = let never = not_against_segment j k x s in cc (never, h)

module _ (items : List Checked) (n : ℕ) (t : Table) (c : Checked) (here : slice_get items n ≡ Some c) (against : is_against t.node c.item.fields ≡ true) where
  nothing_answered : (i : ℕ) → answers_at items i n ≡ false
  nothing_answered i = not_answered_by t.node (slice_get items i) (slice_get items n) c here against

  stands_still : (i : ℕ) → HasSpanAt t.spans.items i ↔ (HasSpanAt t.spans.items i ⊎ ((i ≡ n) × IsSegmentAt items t.node n))
  stands_still i = (
    λ h. inl h,
    λ h. ⊎_elim (λ old. old) (λ (e : (i ≡ n) × IsSegmentAt items t.node n).
        absurd (against_no_segment t.node t.node c.item.fields against (subst (λ (k : Checked). IsSegmentOf t.node k.item.fields) (same_Some e.1.0 c (sym e.1.1 ∙ here)) e.1.2))) h,
  )

  pub answered_step : true ≡ is_answered items c.item.fields → BodyStep items n t t
  answered_step answered = record {
    node = refl;
    rows = refl;
    receipts = refl;
    stands = stands_still;
    unanswered = λ i. (
      λ has. inl (has, nothing_answered i),
      λ h. ⊎_elim (λ old. old.0) (λ (e : (i ≡ n) × IsOpenAt items t.node n).
          let same : e.1.0 ≡ c = same_Some e.1.0 c (sym e.1.1 ∙ here) in
          let not_so : is_answered items c.item.fields ≡ false = subst (λ (k : Checked). is_answered items k.item.fields ≡ false) same (both (is_against t.node e.1.0.item.fields) (is_answered items e.1.0.item.fields) e.1.2).1 in
          absurd (cc (answered, not_so))) h,
    );
  }

  module _ (u : Table) (node : u.node ≡ t.node) (rows : u.rows ≡ t.rows) (receipts : u.receipts ≡ t.receipts) (spans : u.spans ≡ t.spans) (unanswered : (i : ℕ) → Contains u.unanswered.items i ↔ (Contains t.unanswered.items i ⊎ (i ≡ n))) where
    pub open_step : is_answered items c.item.fields ≡ false → BodyStep items n t u
    open_step not_so = record {
      node = node;
      rows = rows;
      receipts = receipts;
      stands = λ i. subst (λ v. HasSpanAt v.items i ↔ (HasSpanAt t.spans.items i ⊎ ((i ≡ n) × IsSegmentAt items t.node n))) (sym spans) (stands_still i);
      unanswered = λ i. (
        λ has. ⊎_elim (λ old. inl (old, nothing_answered i)) (λ new. inr (new, (c, here, open_so (is_against t.node c.item.fields) (is_answered items c.item.fields) against not_so))) ((unanswered i).0 has),
        λ h. (unanswered i).1 (⊎_elim (λ (old : Contains t.unanswered.items i × (answers_at items i n ≡ false)). inl old.0) (λ (e : (i ≡ n) × IsOpenAt items t.node n). inr e.0) h),
      );
    }

-- ---- other nodes

segment_subject : (j : ℕ) (y : Fields) → IsSegmentOf j y → subject y ≡ Some j
segment_subject j (form.Auth a) h = absurd h
segment_subject j (form.Segment s) h = ap Some h
segment_subject j (form.Audit c) h = absurd h
segment_subject j (form.Send m) h = absurd h
segment_subject j (form.Ack a) h = absurd h

against_subject : (j : ℕ) (y : Fields) → is_against j y ≡ true → subject y ≡ Some j
against_subject j (form.Auth a) h = absurd cc
against_subject j (form.Segment s) h = absurd cc
against_subject j (form.Audit c) h = ap Some ((Decides-eqb c.node j).0 h)
against_subject j (form.Send m) h = ap Some ((Decides-eqb m.to j).0 h)
against_subject j (form.Ack a) h = absurd cc

body_still : (items : List Checked) (n : ℕ) (t : Table) (c : Checked) → slice_get items n ≡ Some c → (subject c.item.fields ≡ Some t.node → ⊥) → ((i : ℕ) → Contains t.unanswered.items i → IsAgainstAt items t.node i) → BodyStep items n t t
body_still items n t c here other against = record {
  node = refl;
  rows = refl;
  receipts = refl;
  stands = λ i. (
    λ h. inl h,
    λ h. ⊎_elim (λ old. old) (λ (e : (i ≡ n) × IsSegmentAt items t.node n). absurd (other (of_item e.1.0 e.1.1 (segment_subject t.node e.1.0.item.fields e.1.2)))) h,
  );
  unanswered = λ i. (
    λ has. inl (
      has,
      false_by (answers_at items i n) (λ h.
          let means = answered_means (slice_get items i) (slice_get items n) h in
          let asked = against i has in
          let same : asked.0 ≡ means.0 = same_Some asked.0 means.0 (sym asked.1 ∙ means.2) in
          other (of_item means.1 means.3 (answer_of t.node means.0.item.fields means.1.item.fields (answerer t.node means.0.item.fields means.1 (subst (λ (k : Checked). is_against t.node k.item.fields ≡ true) same asked.2) means.4)))),
    ),
    λ h. ⊎_elim (λ old. old.0) (λ (e : (i ≡ n) × IsOpenAt items t.node n).
        absurd (other (of_item e.1.0 e.1.1 (against_subject t.node e.1.0.item.fields (both (is_against t.node e.1.0.item.fields) (is_answered items e.1.0.item.fields) e.1.2).0)))) h,
  );
}
  where
    of_item : (d : Checked) → slice_get items n ≡ Some d → subject d.item.fields ≡ Some t.node → subject c.item.fields ≡ Some t.node
    of_item d at h = subst (λ (k : Checked). subject k.item.fields ≡ Some t.node) (same_Some d c (sym at ∙ here)) h

-- Nothing comes to the table of another node.
pub body_elsewhere : (items : List Checked) (n : ℕ) (c : Checked) (t : Table) → slice_get items n ≡ Some c → IsBodyDue items n t → (subject c.item.fields ≡ Some t.node → ⊥) → BodyCame items n t t
body_elsewhere items n c t here due other = record {
  kept = record {
    told = due.others.kept.told;
    asked = asked_still items n t (λ seg. other (segment_subject t.node c.item.fields (subst (λ (k : Checked). IsSegmentOf t.node k.item.fields) (same_Some seg.0 c (sym seg.1 ∙ here)) seg.2))) due.others.kept.asked;
  };
  step = body_still items n t c here other due.others.against;
  rooms = rooms_still (subject_by (slice_get items n)) t (λ own. other (sym (ap subject_by here) ∙ own));
}

-- Where it was put, its promise is taken back.
pub put_back : (items : List Checked) (n m : ℕ) (h : Hashes) (c : Checked) (t u : Table) → slice_get items n ≡ Some c → subject c.item.fields ≡ Some t.node → BodyPut items n t u → m ≡ u.bodies - 1 → AreSame u.hashes h → BodyCame items n t (record u { bodies = m; hashes = h })
put_back items n m h c t u here own put is same =
    let v : Table = record u { bodies = m; hashes = h } in
    let less : m ≡ t.bodies - 1 = omega (arith, is, put.counts.bodies) in
    record {
      kept = record { told = told_receipts items u v refl refl refl refl put.kept.told.receipts put.kept.told; asked = asked_roomier items (length items) u v refl refl same put.kept.asked };
      step = record { node = put.step.node; rows = put.step.rows; receipts = put.step.receipts; stands = put.step.stands; unanswered = put.step.unanswered };
      rooms = rooms_here (subject_by (slice_get items n)) t v (ap subject_by here ∙ own) (record { span_room = put.rooms.span_room; open_room = put.rooms.open_room }) put.counts.promised less;
    }

-- what is a segment of the subject is one of its node
of_subject : (j : ℕ) (y : Fields) → is_segment y ≡ true → subject y ≡ Some j → IsSegmentOf j y
of_subject j (form.Auth a) is own = absurd cc
of_subject j (form.Segment s) is own = same_Some s.node j own
of_subject j (form.Audit c) is own = absurd cc
of_subject j (form.Send m) is own = absurd cc
of_subject j (form.Ack a) is own = absurd cc

pub segment_here : (items : List Checked) (n j : ℕ) (c : Checked) → slice_get items n ≡ Some c → is_segment c.item.fields ≡ true → subject c.item.fields ≡ Some j → IsSegmentAt items j n
segment_here items n j c here is own = (c, here, of_subject j c.item.fields is own)

pub ack_here : (items : List Checked) (n : ℕ) (c : Checked) (a : AckItem) → slice_get items n ≡ Some c → c.item.fields ≡ form.Ack a → IsAckAt items n
ack_here items n c a here is = (c, here, ap is_ack is)
