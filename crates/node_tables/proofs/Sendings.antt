-- Send challenges of one sender, receiver and number stand together among places that ascend by spelling.
use Rattle.std.proofs.Common.{◌≡◌, ℕ, zero, suc, ◌<◌, ◌≤◌, Bool, true, false, cond, not, List, [], ◌∷◌, length, get_or, Option, Some, None, refl, sym, ap, subst, ◌∙◌, ⊎_elim, arith}
use Rattle.std.specs.Prelude.{◌↔◌, slice_get}
use Rattle.std.specs.List.{filter, remove_range}
use Rattle.std.specs.List.Sorted.{IsPartitionPoint, IsPartitionedBy}
use Rattle.std.specs.Cmp.{IsTotalOrder}
use Rattle.std.specs.Ordering.{is_eq, is_le, is_lt, ordering_reverse, ordering_then, nat_cmp}
use Rattle.std.specs.declared.cmp.Ordering.{Ordering}
use Rattle.std.specs.declared.cmp.Ordering.TheVariants.{Less, Equal, Greater}
use Rattle.std.proofs.lemmas.Bool.{cases_lt}
use Rattle.std.proofs.lemmas.Cmp.{nat_cmp_total, on_total, then_total}
use Rattle.item_forms.specs.Messages.{Message}
use Rattle.item_forms.specs.declared.forms.AckItem.{AckItem}
use Rattle.item_forms.specs.declared.forms.Fields.{Fields}
use Rattle.item_forms.specs.declared.forms.Fields.TheVariants as form
use Rattle.item_forms.specs.Groups.{Acknowledgements, block_order, sending_order, text_order}
use Rattle.item_forms.specs.within.Orders.{fields_order}
use Rattle.item_forms.proofs.GroupOrders.{groups_hold}
use Rattle.item_forms.proofs.ItemOrders.{fields_by_bytes}
use Rattle.authenticators.proofs.AscendingLists.{below_at}
use Rattle.evidence_item.specs.Checking.{Checked, is_segment}
use Rattle.evidence_set.proofs.AnswerTests.{answers_decide}
use Rattle.evidence_set.proofs.Joins.{same_test}
use Rattle.kept_evidence.specs.Kept.{by_item}
use Rattle.kept_evidence.specs.Telling.{told_answers, told_send}
use Rattle.evidence_set.specs.Challenges.{answers_audit, is_same_sending}
use Rattle.std.proofs.lemmas.Option.{same_Some}
use Rattle.node_tables.specs.declared.sending.Sending.{Sending}
use Rattle.node_tables.specs.Places.{AscendBySpelling}
use Rattle.node_tables.specs.within.Placing.{IsAckAt, answered_by, answers_at, is_ack}
use Rattle.node_tables.specs.within.Sendings.{acknowledged, acknowledged_by, is_at, is_before, is_up_to, message_cmp, sending_cmp, sending_order_by}
use Rattle.node_tables.proofs.RowLists.{named_at, same_length}

-- ---- a list without what stands between two places

pub all_stay : {X : Type 0} (p : X → Bool) (xs : List X) → ((k : ℕ) (d : X) → k < length xs → p (get_or xs k d) ≡ false) → xs ≡ filter (λ x. not (p x)) xs
all_stay p [] h = refl
all_stay p (x ∷ xs) h =
    let rest : xs ≡ filter (λ y. not (p y)) xs = all_stay p xs (λ k d lt. h (suc k) d (omega (arith, lt))) in
    ap (λ l. x ∷ l) rest ∙ ap (λ b. cond (not b) (x ∷ filter (λ y. not (p y)) xs) (filter (λ y. not (p y)) xs)) (sym (h zero x (omega arith)))

pub removed : {X : Type 0} (p : X → Bool) (xs : List X) (i j : ℕ) → i ≤ j → j ≤ length xs
    → ((k : ℕ) (d : X) → k < i → p (get_or xs k d) ≡ false)
    → ((k : ℕ) (d : X) → i ≤ k → k < j → p (get_or xs k d) ≡ true)
    → ((k : ℕ) (d : X) → j ≤ k → k < length xs → p (get_or xs k d) ≡ false)
    → remove_range xs i j ≡ filter (λ x. not (p x)) xs
removed p [] zero zero le inside first mid last = refl
removed p [] zero (suc j) le inside first mid last = absurd (omega (arith, inside))
removed p [] (suc i) j le inside first mid last = absurd (omega (arith, le, inside))
removed p (x ∷ xs) zero zero le inside first mid last = all_stay p (x ∷ xs) (λ k d lt. last k d (omega arith) lt)
removed p (x ∷ xs) zero (suc j) le inside first mid last =
    removed p xs zero j (omega arith) (omega (arith, inside)) (λ k d lt. absurd (omega (arith, lt))) (λ k d lo hi. mid (suc k) d (omega arith) (omega (arith, hi))) (λ k d lo hi. last (suc k) d (omega (arith, lo)) (omega (arith, hi)))
    ∙ ap (λ b. cond (not b) (x ∷ filter (λ y. not (p y)) xs) (filter (λ y. not (p y)) xs)) (sym (mid zero x (omega arith) (omega arith)))
removed p (x ∷ xs) (suc i) zero le inside first mid last = absurd (omega (arith, le))
removed p (x ∷ xs) (suc i) (suc j) le inside first mid last =
    ap (λ l. x ∷ l) (removed p xs i j (omega (arith, le)) (omega (arith, inside)) (λ k d lt. first (suc k) d (omega (arith, lt))) (λ k d lo hi. mid (suc k) d (omega (arith, lo)) (omega (arith, hi))) (λ k d lo hi. last (suc k) d (omega (arith, lo)) (omega (arith, hi))))
    ∙ ap (λ b. cond (not b) (x ∷ filter (λ y. not (p y)) xs) (filter (λ y. not (p y)) xs)) (sym (first zero x (omega arith)))

-- ---- the order of sendings

abbrev message_of : Sending → Message
message_of s = record { from = s.from; to = s.to; seq = s.seq; prev = []; sig = []; payload = [] }

sending_total : IsTotalOrder sending_order
sending_total = then_total (on_total (λ (m : Message). m.from) nat_cmp_total) (then_total (on_total (λ (m : Message). m.to) nat_cmp_total) (on_total (λ (m : Message). m.seq) nat_cmp_total))

regrouped : (a b c rest : Ordering) → ordering_then (ordering_then a (ordering_then b c)) rest ≡ ordering_then a (ordering_then b (ordering_then c rest))
regrouped Less b c rest = refl
regrouped Greater b c rest = refl
regrouped Equal Less c rest = refl
regrouped Equal Greater c rest = refl
regrouped Equal Equal c rest = refl

-- The second of two places is not before one where the first is not, nor the first behind one where the second is not.
abbrev StayInOrder : Ordering → Ordering → Type 0
StayInOrder first second = (second ≡ Less → first ≡ Less) × (first ≡ Greater → second ≡ Greater)

turned : (x y : Message) (o : Ordering) → sending_order x y ≡ o → sending_order y x ≡ ordering_reverse o
turned x y o is = sending_total.antisymm y x ∙ ap ordering_reverse is

by_first : (x y k : Message) (o rest : Ordering) → sending_order x y ≡ o → ordering_then o rest ≡ Less → StayInOrder (sending_order x k) (sending_order y k)
by_first x y k Less rest is h = (λ below. sending_total.trans x y k is below, λ above. turned k y Less (sending_total.trans k x y (turned x k Greater above) is))
by_first x y k Equal rest is h = let same = sending_total.congr x y k is in (λ below. same ∙ below, λ above. sym same ∙ above)
by_first x y k Greater rest is h = absurd cc

-- items in order are in order with a sending
in_order : (s : Sending) (x y : Fields) → fields_order x y ≡ Less → StayInOrder (sending_cmp s x) (sending_cmp s y)
in_order s (form.Send x) (form.Send y) h =
    let rest = ordering_then (block_order x.prev y.prev) (ordering_then (text_order x.sig y.sig) (text_order x.payload y.payload)) in
    by_first x y (message_of s) (sending_order x y) rest refl (regrouped (nat_cmp x.from y.from) (nat_cmp x.to y.to) (nat_cmp x.seq y.seq) rest ∙ h)
in_order s (form.Auth x) (form.Auth y) h = (λ below. cc, λ above. cc)
in_order s x (form.Auth y) h = (λ below. cc, λ above. cc)
in_order s x y h = (λ below. cc, λ above. cc)

before_down : (o p : Ordering) → StayInOrder o p → is_lt p ≡ true → is_lt o ≡ true
before_down o Less stay h = ap is_lt (stay.0 refl)
before_down o Equal stay h = absurd cc
before_down o Greater stay h = absurd cc

up_to_down : (o p : Ordering) → StayInOrder o p → is_le p ≡ true → is_le o ≡ true
up_to_down Less p stay h = refl
up_to_down Equal p stay h = refl
up_to_down Greater p stay h = absurd (let e : is_le p ≡ false = ap is_le (stay.1 refl) in cc (e, h))

-- ---- the three parts of the places

first_part : (o : Ordering) → is_lt o ≡ true → is_eq o ≡ false
first_part Less h = refl
first_part Equal h = absurd cc
first_part Greater h = refl

middle_part : (o : Ordering) → is_lt o ≡ false → is_le o ≡ true → is_eq o ≡ true
middle_part Less h k = absurd cc
middle_part Equal h k = refl
middle_part Greater h k = absurd cc

last_part : (o : Ordering) → is_le o ≡ false → is_eq o ≡ false
last_part Less h = refl
last_part Equal h = absurd cc
last_part Greater h = refl

no_part : (o : Ordering) → is_lt o ≡ true → is_le o ≡ false → ⊥
no_part Less h k = cc
no_part Equal h k = cc
no_part Greater h k = cc

pub some_of : {X : Type 0} (xs : List X) (j : ℕ) → j < length xs → X
some_of [] j inside = absurd (omega (arith, inside))
some_of (x ∷ xs) j inside = x

module _ (items : List Checked) (places : List ℕ) (asked : AscendBySpelling items places) (s : Sending) where
  abbrev q : ℕ → Ordering
  q i = sending_order_by s (slice_get items i)

  long : length places ≡ length asked.named
  long = same_length (slice_get items) places asked.named asked.names

  lies : (k : ℕ) (d : ℕ) (e : Checked) → k < length asked.named → q (get_or places k d) ≡ sending_cmp s (get_or asked.named k e).item.fields
  lies k d e inside = ap (sending_order_by s) (named_at (slice_get items) places asked.named k d e asked.names inside)

  stay : (i j : ℕ) (d : ℕ) → i < j → j < length places → StayInOrder (q (get_or places i d)) (q (get_or places j d))
  stay i j d lt inside =
      let here : j < length asked.named = let l = long in omega (arith, inside, l) in
      let e = some_of asked.named j here in
      let x = get_or asked.named i e in
      let y = get_or asked.named j e in
      let lower = below_at by_item asked.named i j e asked.ascending lt here in
      let up = in_order s x.item.fields y.item.fields (fields_by_bytes x.item.fields y.item.fields x.item.fits y.item.fits ∙ lower) in
      subst (λ o. StayInOrder o (q (get_or places j d))) (sym (lies i d e (omega (arith, lt, here)))) (subst (λ o. StayInOrder (sending_cmp s x.item.fields) o) (sym (lies j d e here)) up)

  pub before_parted : IsPartitionedBy (λ i. is_before s (slice_get items i)) places
  before_parted i j d le inside holds = ⊎_elim
      (λ (lt : i < j). before_down (q (get_or places i d)) (q (get_or places j d)) (stay i j d lt inside) holds)
      (λ (ge : j ≤ i). let same : j ≡ i = omega (arith, le, ge) in subst (λ n. is_lt (q (get_or places n d)) ≡ true) same holds)
      (cases_lt i j)

  pub up_to_parted : IsPartitionedBy (λ i. is_up_to s (slice_get items i)) places
  up_to_parted i j d le inside holds = ⊎_elim
      (λ (lt : i < j). up_to_down (q (get_or places i d)) (q (get_or places j d)) (stay i j d lt inside) holds)
      (λ (ge : j ≤ i). let same : j ≡ i = omega (arith, le, ge) in subst (λ n. is_le (q (get_or places n d)) ≡ true) same holds)
      (cases_lt i j)

module _ (items : List Checked) (places : List ℕ) (s : Sending) (i j : ℕ) (inside_i : i ≤ length places) (inside : j ≤ length places)
    (before : IsPartitionPoint (λ k. is_before s (slice_get items k) ≡ true) (λ k. is_before s (slice_get items k) ≡ false) places i)
    (up_to : IsPartitionPoint (λ k. is_up_to s (slice_get items k) ≡ true) (λ k. is_up_to s (slice_get items k) ≡ false) places j) where
  abbrev r : ℕ → Ordering
  r k = sending_order_by s (slice_get items k)

  pub edges_rise : i ≤ j
  edges_rise = ⊎_elim
      (λ (lt : j < i). absurd (no_part (r (get_or places j 0)) (before.0 j 0 (omega arith) lt) (up_to.1 j 0 (omega arith) (omega (arith, lt, inside_i)))))
      (λ (le : i ≤ j). le)
      (cases_lt j i)

  pub taken : remove_range places i j ≡ filter (λ k. not (is_at s (slice_get items k))) places
  taken = removed (λ k. is_at s (slice_get items k)) places i j edges_rise inside
      (λ k d lt. first_part (r (get_or places k d)) (before.0 k d (omega arith) lt))
      (λ k d lo hi. let here : k < length places = omega (arith, hi, inside) in middle_part (r (get_or places k d)) (before.1 k d lo here) (up_to.0 k d (omega arith) hi))
      (λ k d lo hi. last_part (r (get_or places k d)) (up_to.1 k d lo hi))

-- ---- what an acknowledgement answers

pub equal_is : (o : Ordering) → is_eq o ≡ true → o ≡ Equal
equal_is Less h = absurd cc
equal_is Equal h = refl
equal_is Greater h = absurd cc

pub same_sending : (s : Sending) (m : Message) → (is_eq (message_cmp s m) ≡ true) ↔ ((m.from ≡ s.from) × (m.to ≡ s.to) × (m.seq ≡ s.seq))
same_sending s m =
    let holds = groups_hold (Acknowledgements (message_of s)) (form.Ack (record { message = m; seq = 0; prev = []; sig = [] })) in
    (λ h. holds.0 (equal_is (message_cmp s m) h), λ h. ap is_eq (holds.1 h))

-- the sending of an acknowledged message
abbrev acked : AckItem → Sending
acked a = record { from = a.message.from; to = a.message.to; seq = a.message.seq }

one_sending : (a : AckItem) (m : Message) → is_eq (message_cmp (acked a) m) ≡ is_same_sending a.message m
one_sending a m =
    let tests = answers_decide [] (form.Send m) (form.Ack a) in
    same_test (is_eq (message_cmp (acked a) m)) (is_same_sending a.message m)
    (λ h. let t = (same_sending (acked a) m).0 h in tests.1 (sym t.0, sym t.1, sym t.2))
    (λ h. let t = tests.0 h in (same_sending (acked a) m).1 (sym t.0, sym t.1, sym t.2))

ack_answers : (a : AckItem) (c : Checked) → c.item.fields ≡ form.Ack a → (x : Fields) → is_eq (sending_cmp (acked a) x) ≡ told_answers x c
ack_answers a c is (form.Auth b) = refl
ack_answers a c is (form.Segment s) = refl
ack_answers a c is (form.Audit d) = sym (ap (answers_audit d) is)
ack_answers a c is (form.Send m) = one_sending a m ∙ sym (ap (λ y. told_send m y c.findings) is)
ack_answers a c is (form.Ack b) = refl

by_ack : (a : AckItem) (c : Checked) → c.item.fields ≡ form.Ack a → (o : Option Checked) → is_at (acked a) o ≡ answered_by o (Some c)
by_ack a c is None = refl
by_ack a c is (Some d) = ack_answers a c is d.item.fields

some_sending : (s : Sending) (x : Fields) → acknowledged x ≡ Some s → (a : AckItem) × (x ≡ form.Ack a) × (acked a ≡ s)
some_sending s (form.Auth a) h = absurd cc
some_sending s (form.Segment t) h = absurd cc
some_sending s (form.Audit c) h = absurd cc
some_sending s (form.Send m) h = absurd cc
some_sending s (form.Ack a) h = (a, refl, same_Some (acked a) s h)

pub no_sending : (x : Fields) → is_segment x ≡ true → acknowledged x ≡ None
no_sending (form.Auth a) h = absurd cc
no_sending (form.Segment t) h = refl
no_sending (form.Audit c) h = absurd cc
no_sending (form.Send m) h = absurd cc
no_sending (form.Ack a) h = absurd cc

has_sending : (x : Fields) → is_ack x ≡ true → acknowledged x ≡ None → ⊥
has_sending (form.Auth a) h none = cc
has_sending (form.Segment t) h none = cc
has_sending (form.Audit c) h none = cc
has_sending (form.Send m) h none = cc
has_sending (form.Ack a) h none = cc

module _ (items : List Checked) (n : ℕ) where
  -- An acknowledgement answers the challenges of its sending, and no other.
  pub ack_takes : (s : Sending) → acknowledged_by (slice_get items n) ≡ Some s → IsAckAt items n → (xs : List ℕ) → filter (λ i. not (is_at s (slice_get items i))) xs ≡ filter (λ i. not (answers_at items i n)) xs
  ack_takes s found (c, here, ack) xs =
      let one = some_sending s c.item.fields (sym (ap acknowledged_by here) ∙ found) in
      let same : (o : Option Checked) → is_at s o ≡ answered_by o (slice_get items n) = λ o. sym (ap (λ (t : Sending). is_at t o) one.2) ∙ by_ack one.0 c one.1 o ∙ sym (ap (answered_by o) here) in
      λ k. filter (λ i. not (same (slice_get items i) k)) xs

  pub never_none : IsAckAt items n → acknowledged_by (slice_get items n) ≡ None → ⊥
  never_none (c, here, ack) none = has_sending c.item.fields ack (sym (ap acknowledged_by here) ∙ none)
