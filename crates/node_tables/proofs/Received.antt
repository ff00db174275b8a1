-- Receipts: in one table, and in the tables of all nodes.
use Rattle.std.proofs.Common.{◌≡◌, ℕ, zero, suc, ◌<◌, ◌≤◌, Bool, true, false, List, [], ◌∷◌, ◌++◌, length, get_or, Result, Ok, Err, is_ok, Option, Some, None, refl, sym, ap, subst, ◌∙◌, ◌⊎◌, inl, inr, ⊎_elim, arith}
use Rattle.std.specs.Prelude.{◌↔◌, ◌==◌, IsSome, IsTrue, slice_get}
use Rattle.std.specs.List.{Contains, insert}
use Rattle.std.specs.List.Sorted.{IsBinarySearchResult, IsSearchInRange}
use Rattle.std.specs.Cmp.{IsTotalOrder}
use Rattle.std.specs.Ordering.{nat_cmp, ordering_then}
use Rattle.std.specs.declared.cmp.Ordering.{Ordering}
use Rattle.std.specs.declared.cmp.Ordering.TheVariants.{Less, Equal, Greater}
use Rattle.std.proofs.lemmas.Bool.Decides.{Decides-eqb}
use Rattle.std.proofs.lemmas.Cmp.{nat_cmp_total, on_total, ranked, then_total}
use Rattle.std.proofs.lemmas.List.Elements.{Contains-get_or}
use Rattle.std.proofs.lemmas.Option.{same_Some, slice_get_within}
use Rattle.authenticators.specs.declared.authenticator.Authenticator.{Authenticator}
use Rattle.authenticators.proofs.AscendingLists.{absent, members-insert, searchable, sorted-insert}
use Rattle.item_forms.specs.declared.forms.Fields.{Fields}
use Rattle.item_forms.specs.declared.forms.Fields.TheVariants as form
use Rattle.evidence_item.specs.declared.findings.Findings.{Findings}
use Rattle.evidence_item.specs.Checking.{Checked}
use Rattle.kept_items.specs.Positions.{positions, stated_in}
use Rattle.node_tables.specs.declared.receipt_list.ReceiptList.{ReceiptList}
use Rattle.node_tables.specs.declared.row.Row.{Row}
use Rattle.node_tables.specs.declared.sending.Sending.{Sending}
use Rattle.node_tables.specs.declared.table.Table.{Table}
use Rattle.node_tables.specs.Indexed.{AreReceipts}
use Rattle.node_tables.specs.Receipts.{AscendBySending, IsReceived, by_sending, receipt_at, receipt_by, receipt_in, received}
use Rattle.node_tables.specs.Rows.{AreRowsOf, stated_at, stated_by}
use Rattle.node_tables.specs.Tables.{IsSpan, IsTold, IsUpToDate, Says}
use Rattle.node_tables.specs.within.Bringing.{HaveCome, ReceiptStep, RowStep, StatementStep, StatementsStep}
use Rattle.node_tables.specs.within.Placing.{AreOtherReceipts, BodyStep, IsReceivedElsewhere}
use Rattle.node_tables.proofs.Grown.{at_cases, still_at}
use Rattle.node_tables.proofs.Positioned.{within}

-- ---- the order of messages

pub by_sending_total : IsTotalOrder by_sending
by_sending_total = then_total (on_total (λ (s : Sending). s.from) nat_cmp_total) (then_total (on_total (λ (s : Sending). s.to) nat_cmp_total) (on_total (λ (s : Sending). s.seq) nat_cmp_total))

both_equal : (a b : Ordering) → ordering_then a b ≡ Equal → (a ≡ Equal) × (b ≡ Equal)
both_equal Less b h = absurd cc
both_equal Equal b h = (refl, h)
both_equal Greater b h = absurd cc

pub same_message : (s t : Sending) → by_sending s t ≡ Equal → s ≡ t
same_message s t h =
    let from = both_equal (nat_cmp s.from t.from) _ h in
    let to = both_equal (nat_cmp s.to t.to) _ from.1 in
    let one : s.from ≡ t.from = ranked s.from t.from Equal (sym from.0) in
    let two : s.to ≡ t.to = ranked s.to t.to Equal (sym to.0) in
    let three : s.seq ≡ t.seq = ranked s.seq t.seq Equal (sym to.1) in
    λ i. record { from = one i; to = two i; seq = three i }

module _ (sendings : List Sending) (s : Sending) (up : AscendBySending sendings) where
  is_there : (i : ℕ) → i < length sendings → IsBinarySearchResult (λ x. by_sending x s) sendings (Ok i) → Contains sendings s
  is_there i inside equal = subst (Contains sendings) (same_message (get_or sendings i s) s (equal s)) (Contains-get_or sendings i s inside)

  module _ (i : ℕ) (inside : i ≤ length sendings) (place : IsBinarySearchResult (λ x. by_sending x s) sendings (Err i)) where
    is_absent : Contains sendings s → ⊥
    is_absent = let parts = place (searchable by_sending by_sending_total sendings s up) in absent by_sending by_sending_total sendings s i parts.0 parts.1

    pub put_ascends : AscendBySending (insert sendings i s)
    put_ascends = let parts = place (searchable by_sending by_sending_total sendings s up) in sorted-insert by_sending by_sending_total s sendings i inside up parts.0 parts.1

    pub put_members : (x : Sending) → Contains (insert sendings i s) x ↔ (Contains sendings x ⊎ (x ≡ s))
    put_members x = members-insert sendings i s x

  -- what a search tells
  pub found_is : (r : Result ℕ ℕ) → IsSearchInRange r (length sendings) → IsBinarySearchResult (λ x. by_sending x s) sendings r → IsTrue (is_ok r) ↔ Contains sendings s
  found_is (Ok i) inside equal = (λ h. is_there i inside equal, λ h. refl)
  found_is (Err i) inside place = (λ h. absurd cc, λ h. absurd (is_absent i inside place h))

  -- and where it is there already, nothing more is
  pub still_members : (i : ℕ) → i < length sendings → IsBinarySearchResult (λ x. by_sending x s) sendings (Ok i) → (x : Sending) → Contains sendings x ↔ (Contains sendings x ⊎ (x ≡ s))
  still_members i inside equal x = (λ h. inl h, λ h. ⊎_elim (λ old. old) (λ new. subst (Contains sendings) (sym new) (is_there i inside equal)) h)

-- ---- what is a receipt

pub received_from : (j : ℕ) (o : Option Authenticator) (s : Sending) → received j o ≡ Some s → (a : Authenticator) × (o ≡ Some a) × (a.node ≡ s.from) × (j ≡ s.to) × (a.seq ≡ s.seq)
received_from j None s h = absurd cc
received_from j (Some a) s h =
    let t : Sending = record { from = a.node; to = j; seq = a.seq } in
    let same : t ≡ s = same_Some t s h in
    (a, refl, ap (λ (x : Sending). x.from) same, ap (λ (x : Sending). x.to) same, ap (λ (x : Sending). x.seq) same)

stated_receipt : (x : Fields) (f : Option Findings) (k : ℕ) (s : Sending) → receipt_in x f k ≡ Some s → (a : Authenticator) × (stated_in x f k ≡ Some a) × (a.node ≡ s.from)
stated_receipt (form.Auth a) f k s h = absurd cc
stated_receipt (form.Segment t) f zero s h = absurd cc
stated_receipt (form.Segment t) f (suc k) s h = let r = received_from t.node (stated_in (form.Segment t) f (suc k)) s h in (r.0, r.1, r.2)
stated_receipt (form.Audit c) f k s h = absurd cc
stated_receipt (form.Send m) f k s h = absurd cc
stated_receipt (form.Ack a) f k s h = absurd cc

-- A receipt is of the statement that it quotes.
pub stated_by_receipt : (o : Option Checked) (k : ℕ) (s : Sending) → receipt_by o k ≡ Some s → (a : Authenticator) × (stated_by o k ≡ Some a) × (a.node ≡ s.from)
stated_by_receipt None k s h = absurd cc
stated_by_receipt (Some c) k s h = stated_receipt c.item.fields c.findings k s h

-- It stands at a position that the item has.
pub receipt_within : (c : Checked) (k : ℕ) (s : Sending) → receipt_by (Some c) k ≡ Some s → k < positions c.item.fields
receipt_within c k s h = let r = stated_receipt c.item.fields c.findings k s h in within c.item.fields c.findings k r.0 r.1

pub some_item : (o : Option Checked) (k : ℕ) (s : Sending) → receipt_by o k ≡ Some s → (c : Checked) × (o ≡ Some c)
some_item None k s h = absurd cc
some_item (Some c) k s h = (c, refl)

-- ---- steps

pub some_of : (o : Option Authenticator) → IsSome o → (a : Authenticator) × (o ≡ Some a)
some_of None h = absurd cc
some_of (Some a) h = (a, refl)

module _ (items : List Checked) (row : Row) where
  -- Where the row names no receipt, nothing comes.
  pub receipt_still : (t : Table) → receipt_at items row ≡ None → ReceiptStep items row t t
  receipt_still t none = record {
    node = refl;
    rows = refl;
    receipts = λ whole. (whole, λ s. (λ h. inl h, λ h. ⊎_elim (λ old. old) (λ (e : (receipt_at items row ≡ Some s) × (s.from ≡ t.node)). absurd (cc (none, e.0))) h));
    spans = refl;
    unanswered = refl;
    hashes = refl;
  }

  pub receipt_step : (t u : Table) (s : Sending) → receipt_at items row ≡ Some s → ((a : Authenticator) → stated_at items row ≡ Some a → a.node ≡ t.node) → u.node ≡ t.node → u.rows ≡ t.rows → u.spans ≡ t.spans → u.unanswered ≡ t.unanswered → u.hashes ≡ t.hashes
      → HaveCome t.receipts u.receipts (λ x. x ≡ s) → ReceiptStep items row t u
  receipt_step t u s is own node rows spans unanswered hashes come =
      let quoted = stated_by_receipt (slice_get items row.item) row.position s is in
      let from : s.from ≡ t.node = sym quoted.2 ∙ own quoted.0 quoted.1 in
      record {
        node = node;
        rows = rows;
        receipts = λ whole.
            let (was, members) = come whole in (
              was,
              λ x. (
                λ h. ⊎_elim (λ old. inl old) (λ new. inr (is ∙ ap Some (sym new), ap (λ (y : Sending). y.from) new ∙ from)) ((members x).0 h),
                λ h. (members x).1 (⊎_elim (λ old. inl old) (λ (e : (receipt_at items row ≡ Some x) × (x.from ≡ t.node)). inr (same_Some x s (sym e.0 ∙ is))) h),
              ),
            );
        spans = spans;
        unanswered = unanswered;
        hashes = hashes;
      }

  -- A row and a receipt together.
  pub statement_step : (t u v w : Table) → RowStep items row t u → ReceiptStep items row u v → IsSome (stated_at items row) → ((a : Authenticator) → stated_at items row ≡ Some a → a.node ≡ t.node)
      → w.node ≡ v.node → w.rows ≡ v.rows → w.receipts ≡ v.receipts → w.spans ≡ v.spans → w.unanswered ≡ v.unanswered → w.hashes ≡ v.hashes → StatementStep items row t w
  statement_step t u v w one two there own node rows receipts spans unanswered hashes =
      let kept : v.rows.room ≡ u.rows.room = ap (λ r. r.room) two.rows in
      let last : w.rows.room ≡ v.rows.room = ap (λ r. r.room) rows in
      let some = some_of (stated_at items row) there in
      record {
        node = node ∙ two.node ∙ one.node;
        says = λ a. subst (λ r. Says items r.items a ↔ (Says items t.rows.items a ⊎ ((stated_at items row ≡ Some a) × (a.node ≡ t.node)))) (sym (rows ∙ two.rows)) (one.says a);
        receipts =
            subst (λ r. HaveCome t.receipts r (λ s. (receipt_at items row ≡ Some s) × (s.from ≡ t.node))) (sym receipts)
            (subst (λ r. HaveCome r v.receipts (λ s. (receipt_at items row ≡ Some s) × (s.from ≡ t.node))) one.receipts
            (subst (λ n. HaveCome u.receipts v.receipts (λ s. (receipt_at items row ≡ Some s) × (s.from ≡ n))) one.node two.receipts));
        spans = spans ∙ two.spans ∙ one.spans;
        unanswered = unanswered ∙ two.unanswered ∙ one.unanswered;
        hashes = hashes ∙ two.hashes ∙ one.hashes;
        room = omega (arith, one.room, kept, last);
        other_room = λ other. absurd (other some.0 some.1 (own some.0 some.1));
      }

-- What is told of a table stays so with other receipts that ascend.
pub told_receipts : (items : List Checked) (t u : Table) → u.node ≡ t.node → u.rows ≡ t.rows → u.spans ≡ t.spans → u.exposure ≡ t.exposure → AscendBySending u.receipts.sendings.items → IsTold items t → IsTold items u
told_receipts items t u node rows spans exposure up told = record {
  held = told.held;
  rows = subst (λ v. AreRowsOf items v.items told.held) (sym rows) told.rows;
  ascending = told.ascending;
  own = λ a has. told.own a has ∙ sym node;
  spans = λ p has. subst (λ n. IsSpan items n p) (sym node) (told.spans p (subst (λ v. Contains v.items p) spans has));
  receipts = up;
  told = subst (λ v. IsUpToDate items told.held v.items u.exposure) (sym spans) (subst (IsUpToDate items told.held t.spans.items) (sym exposure) told.told);
}

-- ---- the tables, with one item more

-- After its statements came, the receipts are those of all items.
pub receipts_now : (items : List Checked) (n k : ℕ) (x : Checked) (t u : Table) → slice_get items n ≡ Some x → k ≡ positions x.item.fields → AreOtherReceipts items n t → StatementsStep items n k t u → AreReceipts items u
receipts_now items n k x t u here all before step whole s = subst (λ j. Contains u.receipts.sendings.items s ↔ (IsReceived items s × (s.from ≡ j))) (sym step.node) (
  λ h. ⊎_elim
      (λ old. let r = (was s).0 old in ((r.0.0, r.0.1, r.0.3), r.1))
      (λ (new : (p : ℕ) × (p < k) × (receipt_by (slice_get items n) p ≡ Some s) × (s.from ≡ t.node)). ((n, new.0, new.2), new.3))
      (((step.receipts whole).1 s).0 h),
  λ h. ((step.receipts whole).1 s).1 (by_place h.0.0 h.0.1 h.0.2 h.1 (h.0.0 == n) refl),
)
  where
    was : (r : Sending) → Contains t.receipts.sendings.items r ↔ (IsReceivedElsewhere items n r × (r.from ≡ t.node))
    was = before (step.receipts whole).0

    by_place : (m p : ℕ) → receipt_by (slice_get items m) p ≡ Some s → s.from ≡ t.node → (b : Bool) → (m == n) ≡ b
        → Contains t.receipts.sendings.items s ⊎ ((q : ℕ) × (q < k) × (receipt_by (slice_get items n) q ≡ Some s) × (s.from ≡ t.node))
    by_place m p is from true e =
        let same : m ≡ n = (Decides-eqb m n).0 e in
        let at : receipt_by (slice_get items n) p ≡ Some s = subst (λ i. receipt_by (slice_get items i) p ≡ Some s) same is in
        let of_x : receipt_by (Some x) p ≡ Some s = sym (ap (λ (o : Option Checked). receipt_by o p) here) ∙ at in
        let lt = receipt_within x p s of_x in
        inr (p, omega (arith, lt, all), at, from)
    by_place m p is from false e = inl ((was s).1 ((m, p, (λ same. let yes = (Decides-eqb m n).1 same in cc (yes, e)), is), from))

-- What an item is beside its statements changes none.
pub receipts_still : (items : List Checked) (n : ℕ) (t u : Table) → BodyStep items n t u → AreReceipts items t → AreReceipts items u
receipts_still items n t u step before = subst (λ j. u.receipts.whole ≡ true → (s : Sending) → Contains u.receipts.sendings.items s ↔ (IsReceived items s × (s.from ≡ j))) (sym step.node)
    (subst (λ (r : ReceiptList). r.whole ≡ true → (s : Sending) → Contains r.sendings.items s ↔ (IsReceived items s × (s.from ≡ t.node))) (sym step.receipts) before)

-- The receipts of the items before are those of the items at other places than the last.
pub receipts_before : (items : List Checked) (x : Checked) (t : Table) → AreReceipts items t → AreOtherReceipts (items ++ x ∷ []) (length items) t
receipts_before items x t before whole s = (
  λ h.
      let r = (before whole s).0 h in
      let (c, at) = some_item (slice_get items r.0.0) r.0.1 s r.0.2 in
      let lt = slice_get_within items r.0.0 c at in
      ((r.0.0, r.0.1, (λ same. omega (arith, lt, same)), ap (λ (o : Option Checked). receipt_by o r.0.1) (still_at items x r.0.0 c at ∙ sym at) ∙ r.0.2), r.1),
  λ h.
      let (c, at) = some_item (slice_get (items ++ x ∷ []) h.0.0) h.0.1 s h.0.3 in
      (before whole s).1 (⊎_elim
      (λ old. ((h.0.0, h.0.1, ap (λ (o : Option Checked). receipt_by o h.0.1) (old ∙ sym at) ∙ h.0.3), h.1))
      (λ (e : (h.0.0 ≡ length items) × (c ≡ x)). absurd (h.0.2 e.0))
      (at_cases items x h.0.0 c at)),
)
