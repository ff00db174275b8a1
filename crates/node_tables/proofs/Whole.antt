-- An item more in the tables of all nodes.
use Rattle.std.proofs.Common.{◌≡◌, ◌≢◌, ℕ, ◌<◌, ◌≤◌, Bool, true, false, List, [], ◌∷◌, ◌++◌, length, Option, Some, None, refl, sym, ap, subst, ◌∙◌, ◌⊎◌, inl, inr, ⊎_elim, arith}
use Rattle.std.specs.Prelude.{◌↔◌, ◌||◌, slice_get}
use Rattle.std.specs.List.{Contains}
use Rattle.std.proofs.lemmas.Option.{same_Some, slice_get_within}
use Rattle.authenticators.specs.declared.authenticator.Authenticator.{Authenticator}
use Rattle.item_forms.specs.declared.forms.Fields.{Fields}
use Rattle.evidence_item.specs.Checking.{Checked}
use Rattle.evidence_set.specs.Challenges.{is_against}
use Rattle.kept_evidence.specs.Kept.{Keeps}
use Rattle.kept_evidence.specs.Telling.{IsSegmentOf, is_answered, told_answers}
use Rattle.node_tables.specs.declared.table.Table.{Table}
use Rattle.node_tables.specs.Indexed.{AreReceipts, IsSaid, IsTable}
use Rattle.node_tables.specs.Hashed.{AreAsked}
use Rattle.node_tables.specs.Places.{IsAgainstAt, IsOpenAt}
use Rattle.kept_items.specs.Positions.{positions, stated}
use Rattle.node_tables.specs.Receipts.{AscendBySending, IsReceived}
use Rattle.node_tables.specs.Rooms.{HasRoomFor, IsRoomier}
use Rattle.node_tables.specs.declared.row.Row.{Row}
use Rattle.node_tables.specs.declared.sending.Sending.{Sending}
use Rattle.node_tables.specs.declared.span.Span.{Span}
use Rattle.node_tables.specs.Rows.{AreRowsOf, stated_by}
use Rattle.node_tables.specs.Steps.{position_of, room, wanted}
use Rattle.node_tables.specs.Tables.{AreSpans, IsSegmentAt, IsTold, IsUpToDate, Says, HasSpanAt}
use Rattle.node_tables.specs.within.Bringing.{StatementsStep}
use Rattle.node_tables.specs.within.Coming.{BodyCame, IsBodyDue, IsDue, ItemCame, StatementsCame}
use Rattle.node_tables.specs.within.Placing.{AreOthers, BodyStep, IsNewAmong, ItemStep, answered_by, answers_at, subject_by}
use Rattle.node_tables.proofs.Grown.{any_more, at_cases, last_at, says_grown, still_at}
use Rattle.node_tables.proofs.Bools.{both, open_so, or_rest}
use Rattle.node_tables.proofs.Hashed.{asked_roomier, asked_same}
use Rattle.node_tables.proofs.Places.{contains_at}
use Rattle.node_tables.proofs.Positioned.{within}
use Rattle.node_tables.proofs.Received.{receipts_now, receipts_still}
use Rattle.node_tables.proofs.Reserved.{item_rooms}

-- ---- one item in one table

item_step : (items : List Checked) (n k : ℕ) (t u v : Table) → StatementsStep items n k t u → BodyStep items n u v → ItemStep items n k t v
item_step items n k t u v one other = record {
  node = other.node ∙ one.node;
  says = λ a. subst (λ w. Says items w.items a ↔ (Says items t.rows.items a ⊎ ((p : ℕ) × (p < k) × (position_of items n p ≡ Some a) × (a.node ≡ t.node)))) (sym other.rows) (one.says a);
  stands = λ i. subst (λ j. HasSpanAt v.spans.items i ↔ (HasSpanAt t.spans.items i ⊎ ((i ≡ n) × IsSegmentAt items j n))) one.node
      (subst (λ w. HasSpanAt v.spans.items i ↔ (HasSpanAt w.items i ⊎ ((i ≡ n) × IsSegmentAt items u.node n))) one.spans (other.stands i));
  unanswered = λ i. subst (λ j. Contains v.unanswered.items i ↔ ((Contains t.unanswered.items i × (answers_at items i n ≡ false)) ⊎ ((i ≡ n) × IsOpenAt items j n))) one.node
      (subst (λ w. Contains v.unanswered.items i ↔ ((Contains w.items i × (answers_at items i n ≡ false)) ⊎ ((i ≡ n) × IsOpenAt items u.node n))) one.unanswered (other.unanswered i));
}

-- Its statements leave what the table has of the others beside theirs; then what it is beside them comes.
module _ (items : List Checked) (n k : ℕ) (x : Checked) (here : slice_get items n ≡ Some x) (t u : Table) (due : IsDue items n t) (came : StatementsCame items n k t u) where
  pub body_due : IsBodyDue items n u
  body_due = record {
    others = record {
      kept = record { told = came.told; asked = asked_same items n t u came.step.node came.step.unanswered came.step.hashes due.others.kept.asked };
      spans = subst (λ j. AreOthers items j n u.spans.items) (sym came.step.node) (subst (λ w. AreOthers items t.node n w.items) (sym came.step.spans) due.others.spans);
      against = λ m has. subst (λ j. IsAgainstAt items j m) (sym came.step.node) (due.others.against m (subst (λ w. Contains w.items m) came.step.unanswered has));
      new = subst (λ w. IsNewAmong items n w.items) (sym came.step.unanswered) due.others.new;
    };
    room = λ own.
        let enough = (due.room x here).body (sym (ap subject_by here) ∙ own ∙ ap (λ j. Some j) came.step.node) in
        record {
          spans = subst (λ v. 1 ≤ v.room) (sym came.step.spans) enough.spans;
          unanswered = subst (λ v. 1 ≤ v.room) (sym came.step.unanswered) enough.unanswered;
        };
  }

  pub item_came : k ≡ positions x.item.fields → (v : Table) → BodyCame items n u v → ItemCame items n t v
  item_came is v body =
      let of_y : (y : Checked) → slice_get items n ≡ Some y → k ≡ positions y.item.fields = λ y at. is ∙ ap (λ (z : Checked). positions z.item.fields) (same_Some x y (sym here ∙ at)) in
      record {
        kept = body.kept;
        receipts = receipts_still items n u v body.step (receipts_now items n k x t u here is due.receipts came.step);
        step = λ y at. subst (λ m. ItemStep items n m t v) (of_y y at) (item_step items n k t u v came.step body.step);
        rooms = λ y at. item_rooms items n k y at (of_y y at) t u v came body;
      }

-- There is room for its statements.
pub room_of : (items : List Checked) (n k : ℕ) (x : Checked) → slice_get items n ≡ Some x → k ≡ positions x.item.fields → (t : Table) → HasRoomFor x t → wanted (position_of items n) k t.node ≤ room t
room_of items n k x at is t has = subst (λ (o : Option Checked). wanted (stated_by o) k t.node ≤ room t) (sym at) (subst (λ m. wanted (stated x) m t.node ≤ room t) (sym is) has.statements)

-- ---- one item more

module _ (items : List Checked) (x : Checked) where
  abbrev pub more : List Checked
  more = items ++ x ∷ []

  abbrev n : ℕ
  n = length items

  some_by : (o : Option Checked) (k : ℕ) (a : Authenticator) → stated_by o k ≡ Some a → (c : Checked) × (o ≡ Some c)
  some_by None k a h = absurd cc
  some_by (Some c) k a h = (c, refl)

  -- what is said by more items
  pub said_or : (a : Authenticator) → IsSaid more a ↔ (IsSaid items a ⊎ ((p : ℕ) × (p < positions x.item.fields) × (position_of more n p ≡ Some a)))
  said_or a = (
    λ (m, k, h).
        let (c, at) = some_by (slice_get more m) k a h in
        ⊎_elim
        (λ old. inl (m, k, ap (λ (o : Option Checked). stated_by o k) (old ∙ sym at) ∙ h))
        (λ (e : (m ≡ n) × (c ≡ x)). inr (k, within x.item.fields x.findings k a (sym (ap (λ (o : Option Checked). stated_by o k) (at ∙ ap Some e.1)) ∙ h), subst (λ i. position_of more i k ≡ Some a) e.0 h))
        (at_cases items x m c at),
    λ h. ⊎_elim
        (λ (old : IsSaid items a).
        let (c, at) = some_by (slice_get items old.0) old.1 a old.2 in
        (old.0, old.1, ap (λ (o : Option Checked). stated_by o old.1) (still_at items x old.0 c at ∙ sym at) ∙ old.2))
        (λ (new : (p : ℕ) × (p < positions x.item.fields) × (position_of more n p ≡ Some a)). (n, new.0, new.2))
        h,
  )

  -- the segments among more items
  pub segment_or : (j i : ℕ) → IsSegmentAt more j i ↔ (IsSegmentAt items j i ⊎ ((i ≡ n) × IsSegmentAt more j n))
  segment_or j i = (
    λ (c, at, of). ⊎_elim
        (λ old. inl (c, old, of))
        (λ (e : (i ≡ n) × (c ≡ x)). inr (e.0, (x, last_at items x, subst (λ (k : Checked). IsSegmentOf j k.item.fields) e.1 of)))
        (at_cases items x i c at),
    λ h. ⊎_elim
        (λ (old : IsSegmentAt items j i). (old.0, still_at items x i old.0 old.1, old.2))
        (λ (new : (i ≡ n) × IsSegmentAt more j n). subst (IsSegmentAt more j) (sym new.0) new.1)
        h,
  )

  not_last : (i : ℕ) (c : Checked) → slice_get items i ≡ Some c → i ≢ n
  not_last i c at same = let lt = slice_get_within items i c at in omega (arith, lt, same)

  pub others_here : (j : ℕ) (t : Table) → t.node ≡ j → ((i : ℕ) → HasSpanAt t.spans.items i ↔ IsSegmentAt items j i) → AreOthers more j n t.spans.items
  others_here j t own stands i = (
    λ h. let old = (stands i).0 h in ((segment_or j i).1 (inl old), not_last i old.0 old.1),
    λ (h, other). ⊎_elim (λ old. (stands i).1 old) (λ (e : (i ≡ n) × IsSegmentAt more j n). absurd (other e.0)) ((segment_or j i).0 h),
  )

  -- ---- challenges

  neither : (a b : Bool) → (a || b) ≡ false → (a ≡ false) × (b ≡ false)
  neither true b h = absurd cc
  neither false b h = (refl, h)

  answered_more : (y : Fields) → is_answered more y ≡ (is_answered items y || told_answers y x)
  answered_more y = any_more (told_answers y) items x

  answers_last : (i : ℕ) (c : Checked) → slice_get items i ≡ Some c → answers_at more i n ≡ told_answers c.item.fields x
  answers_last i c at = ap (λ (o : Option Checked). answered_by o (slice_get more n)) (still_at items x i c at) ∙ ap (answered_by (Some c)) (last_at items x)

  pub new_here : (t : Table) → IsTable items t → (Keeps items x.item → ⊥) → IsNewAmong more n t.unanswered.items
  new_here t table absent i c d has at_i at_n same =
      let (e, there, open_e) = (table.unanswered i).0 has in
      let is_x : d ≡ x = same_Some d x (sym at_n ∙ last_at items x) in
      let is_c : e ≡ c = same_Some e c (sym (still_at items x i e there) ∙ at_i) in
      absent (e, contains_at items i e there, ap (λ (k : Checked). k.item) is_c ∙ same ∙ ap (λ (k : Checked). k.item) is_x)

  pub against_here : (j i : ℕ) → IsOpenAt items j i → IsAgainstAt more j i
  against_here j i (c, at, h) = (c, still_at items x i c at, (both (is_against j c.item.fields) (is_answered items c.item.fields) h).0)

  pub open_or : (j i : ℕ) → IsOpenAt more j i ↔ ((IsOpenAt items j i × (answers_at more i n ≡ false)) ⊎ ((i ≡ n) × IsOpenAt more j n))
  open_or j i = (
    λ (c, at, h). ⊎_elim
        (λ old.
        let t = both (is_against j c.item.fields) (is_answered more c.item.fields) h in
        let parts = neither (is_answered items c.item.fields) (told_answers c.item.fields x) (sym (answered_more c.item.fields) ∙ t.1) in
        inl ((c, old, open_so (is_against j c.item.fields) (is_answered items c.item.fields) t.0 parts.0), answers_last i c old ∙ parts.1))
        (λ (e : (i ≡ n) × (c ≡ x)). inr (e.0, subst (IsOpenAt more j) e.0 (c, at, h)))
        (at_cases items x i c at),
    λ h. ⊎_elim
        (λ (old : IsOpenAt items j i × (answers_at more i n ≡ false)).
        let (c, at, is) = old.0 in
        let t = both (is_against j c.item.fields) (is_answered items c.item.fields) is in (
          c,
          still_at items x i c at,
          open_so (is_against j c.item.fields) (is_answered more c.item.fields) t.0
              (answered_more c.item.fields ∙ or_rest (is_answered items c.item.fields) (told_answers c.item.fields x) false t.1 (sym (answers_last i c at) ∙ old.1)),
        ))
        (λ (new : (i ≡ n) × IsOpenAt more j n). subst (IsOpenAt more j) (sym new.0) new.1)
        h,
  )

  -- ---- the table

  -- After the item came, the table has just what more items say of its node.
  pub table_more : (t u : Table) → IsTable items t → ItemStep more n (positions x.item.fields) t u → IsTold more u → AreAsked more (length more) u → AreReceipts more u → IsTable more u
  table_more t u before step told asked receipts = record {
    told = told;
    asked = asked;
    receipts = receipts;
    says = λ a. (
      λ has. ⊎_elim
          (λ old.
          let is = (before.says a).0 ((says_grown items x t before.told a).0 old) in
          ((said_or a).1 (inl is.0), is.1 ∙ sym step.node))
          (λ (new : (p : ℕ) × (p < positions x.item.fields) × (position_of more n p ≡ Some a) × (a.node ≡ t.node)). ((said_or a).1 (inr (new.0, new.1, new.2)), new.3 ∙ sym step.node))
          ((step.says a).0 has),
      λ h. (step.says a).1 (⊎_elim
          (λ old. inl ((says_grown items x t before.told a).1 ((before.says a).1 (old, h.1 ∙ step.node))))
          (λ (new : (p : ℕ) × (p < positions x.item.fields) × (position_of more n p ≡ Some a)). inr (new.0, new.1, new.2, h.1 ∙ step.node))
          ((said_or a).0 h.0)),
    );
    stands = λ i. subst (λ j. HasSpanAt u.spans.items i ↔ IsSegmentAt more j i) (sym step.node) (
      λ h. (segment_or t.node i).1 (⊎_elim (λ old. inl ((before.stands i).0 old)) (λ new. inr new) ((step.stands i).0 h)),
      λ h. (step.stands i).1 (⊎_elim (λ old. inl ((before.stands i).1 old)) (λ new. inr new) ((segment_or t.node i).0 h)),
    );
    unanswered = λ i. subst (λ j. Contains u.unanswered.items i ↔ IsOpenAt more j i) (sym step.node) (
      λ h. (open_or t.node i).1 (⊎_elim
          (λ (old : Contains t.unanswered.items i × (answers_at more i n ≡ false)). inl ((before.unanswered i).0 old.0, old.1))
          (λ new. inr new) ((step.unanswered i).0 h)),
      λ h. (step.unanswered i).1 (⊎_elim
          (λ (old : IsOpenAt items t.node i × (answers_at more i n ≡ false)). inl ((before.unanswered i).1 old.0, old.1))
          (λ new. inr new) ((open_or t.node i).0 h)),
    );
  }

-- A table with more room has what it had.
pub table_roomier : (items : List Checked) (t u : Table) → IsRoomier t u → IsTable items t → IsTable items u
table_roomier items t u same before = record {
  told = record {
    held = before.told.held;
    rows = subst (λ (l : List Row). AreRowsOf items l before.told.held) (sym same.rows) before.told.rows;
    ascending = before.told.ascending;
    own = λ a has. before.told.own a has ∙ sym same.node;
    receipts = subst AscendBySending (sym same.receipts.sendings) before.told.receipts;
    spans = subst (λ (l : List Span). AreSpans items u.node l) (sym same.spans) (subst (λ j. AreSpans items j t.spans.items) (sym same.node) before.told.spans);
    told = subst (λ (l : List Span). IsUpToDate items before.told.held l u.exposure) (sym same.spans) (subst (IsUpToDate items before.told.held t.spans.items) (sym same.exposure) before.told.told);
  };
  says = λ a. subst (λ j. Says items u.rows.items a ↔ (IsSaid items a × (a.node ≡ j))) (sym same.node) (subst (λ (l : List Row). Says items l a ↔ (IsSaid items a × (a.node ≡ t.node))) (sym same.rows) (before.says a));
  receipts = λ whole s. subst (λ j. Contains u.receipts.sendings.items s ↔ (IsReceived items s × (s.from ≡ j))) (sym same.node) (subst (λ (l : List Sending). Contains l s ↔ (IsReceived items s × (s.from ≡ t.node))) (sym same.receipts.sendings) (before.receipts (sym same.receipts.whole ∙ whole) s));
  stands = λ i. subst (λ j. HasSpanAt u.spans.items i ↔ IsSegmentAt items j i) (sym same.node) (subst (λ (l : List Span). HasSpanAt l i ↔ IsSegmentAt items t.node i) (sym same.spans) (before.stands i));
  unanswered = λ i. subst (λ j. Contains u.unanswered.items i ↔ IsOpenAt items j i) (sym same.node) (subst (λ (l : List ℕ). Contains l i ↔ IsOpenAt items t.node i) (sym same.unanswered) (before.unanswered i));
  asked = asked_roomier items (length items) t u same.node same.unanswered same.hashes before.asked;
}
