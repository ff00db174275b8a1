-- What a segment answers: send challenges by the messages that it quotes, and audit challenges.
use Rattle.std.proofs.Common.{◌≡◌, ℕ, zero, suc, ◌+◌, ◌-◌, ◌<◌, ◌≤◌, Bool, true, false, cond, not, List, [], ◌∷◌, length, Option, Some, None, refl, sym, ap, subst, ◌∙◌, ◌⊎◌, inl, inr, ⊎_elim, arith}
use Rattle.std.specs.Prelude.{◌==◌, ◌&&◌, ◌||◌, slice_get}
use Rattle.kept_evidence.proofs.Members.{passing}
use Rattle.std.specs.List.{Contains, filter}
use Rattle.std.specs.Ordering.{is_eq}
use Rattle.std.proofs.lemmas.Bool.{cases_lt}
use Rattle.std.proofs.lemmas.Bool.Decides.{Decides-eqb}
use Rattle.std.proofs.lemmas.Option.{same_Some}
use Rattle.log_chain.specs.declared.entry.Entry.{Entry}
use Rattle.authenticators.specs.declared.authenticator.Authenticator.{Authenticator}
use Rattle.item_forms.specs.Messages.{Message}
use Rattle.replay_verifier.specs.Quotes.{Quote, receipt_of}
use Rattle.item_forms.specs.declared.forms.Fields.{Fields}
use Rattle.item_forms.specs.declared.forms.Fields.TheVariants as form
use Rattle.item_forms.specs.declared.forms.Segment.{Segment}
use Rattle.evidence_item.specs.declared.findings.Findings.{Findings}
use Rattle.evidence_item.specs.declared.findings.Findings.TheVariants as found
use Rattle.evidence_item.specs.Checking.{Checked, is_segment}
use Rattle.evidence_item.specs.Statements.{says}
use Rattle.evidence_set.specs.Challenges.{is_of_number}
use Rattle.evidence_set.proofs.Joins.{same_test}
use Rattle.kept_evidence.specs.Telling.{IsSegmentOf, found_quotes, is_told_receipt, quote_with, told_answers, told_quote, told_receipt, told_send}
use Rattle.kept_items.specs.Positions.{in_segment, positions, quote_at, quote_by, stated_in}
use Rattle.node_tables.specs.declared.sending.Sending.{Sending}
use Rattle.node_tables.specs.Receipts.{receipt_in, received}
use Rattle.node_tables.specs.Tables.{IsSegmentAt}
use Rattle.node_tables.specs.within.Placing.{answered_by, answers_at}
use Rattle.node_tables.specs.within.Sendings.{audited_by, is_among, is_at, is_received, sending_cmp, told_audit}
use Rattle.node_tables.proofs.Bools.{and_both, or_rest}
use Rattle.node_tables.proofs.Received.{received_from}
use Rattle.node_tables.proofs.Sendings.{all_stay, same_sending}

-- ---- tests

or_cases : (a b : Bool) → (a || b) ≡ true → (a ≡ true) ⊎ (b ≡ true)
or_cases true b h = inl refl
or_cases false b h = inr h

or_first : (a b : Bool) → a ≡ true → (a || b) ≡ true
or_first true b h = refl
or_first false b h = absurd cc

or_second : (a b : Bool) → b ≡ true → (a || b) ≡ true
or_second true b h = refl
or_second false b h = h

or_no_rest : (a b c : Bool) → b ≡ false → a ≡ c → (a || b) ≡ c
or_no_rest true b c h k = k
or_no_rest false b c h k = h ∙ k

both_and : (a b : Bool) → a ≡ true → b ≡ true → (a && b) ≡ true
both_and true b h k = k
both_and false b h k = absurd cc

-- ---- receipts among entries

with_quote : (m : Message) (hash : List ℕ) (o : Option Quote) → is_of_number m o ≡ true → (a : Authenticator) × (quote_with hash o ≡ Some a) × (a.node ≡ m.from) × (a.seq ≡ m.seq)
with_quote m hash None h = absurd cc
with_quote m hash (Some q) h =
    let t = and_both (q.from == m.from) (q.seq == m.seq) h in
    (says q.from q.seq hash q.sig, refl, (Decides-eqb q.from m.from).0 t.0, (Decides-eqb q.seq m.seq).0 t.1)

of_quote : (m : Message) (hash : List ℕ) (o : Option Quote) (a : Authenticator) → quote_with hash o ≡ Some a → a.node ≡ m.from → a.seq ≡ m.seq → is_of_number m o ≡ true
of_quote m hash None a is from seq = absurd cc
of_quote m hash (Some q) a is from seq =
    let same : says q.from q.seq hash q.sig ≡ a = same_Some (says q.from q.seq hash q.sig) a is in
    let one : q.from ≡ a.node = ap (λ (b : Authenticator). b.node) same in
    let other : q.seq ≡ a.seq = ap (λ (b : Authenticator). b.seq) same in
    both_and (q.from == m.from) (q.seq == m.seq) ((Decides-eqb q.from m.from).1 (one ∙ from)) ((Decides-eqb q.seq m.seq).1 (other ∙ seq))

receipt_quotes : (m : Message) (e : Entry) (x : Option (List ℕ)) → is_told_receipt m e x ≡ true → (a : Authenticator) × (told_quote e x ≡ Some a) × (a.node ≡ m.from) × (a.seq ≡ m.seq)
receipt_quotes m e None h = absurd cc
receipt_quotes m e (Some hash) h = with_quote m hash (receipt_of e.content) h

quotes_receipt : (m : Message) (e : Entry) (x : Option (List ℕ)) (a : Authenticator) → told_quote e x ≡ Some a → a.node ≡ m.from → a.seq ≡ m.seq → is_told_receipt m e x ≡ true
quotes_receipt m e None a is from seq = absurd cc
quotes_receipt m e (Some hash) a is from seq = of_quote m hash (receipt_of e.content) a is from seq

none_there : (o : Option Entry) (k : ℕ) → quote_by o (slice_get [] k) ≡ None
none_there None k = refl
none_there (Some e) zero = refl
none_there (Some e) (suc k) = refl

-- An entry at place k quotes what is a receipt of the message.
record IsQuotedAt (m : Message) (es : List Entry) (hs : List (Option (List ℕ))) (k : ℕ) : Type 0 where
  statement : Authenticator
  quote : quote_by (slice_get es k) (slice_get hs k) ≡ Some statement
  from : statement.node ≡ m.from
  seq : statement.seq ≡ m.seq

some_quote : (m : Message) (es : List Entry) (hs : List (Option (List ℕ))) → told_receipt m es hs ≡ true → (k : ℕ) × (k < length es) × IsQuotedAt m es hs k
some_quote m [] hs h = absurd cc
some_quote m (e ∷ es) [] h = absurd cc
some_quote m (e ∷ es) (x ∷ hs) h = ⊎_elim
    (λ (one : is_told_receipt m e x ≡ true). let r = receipt_quotes m e x one in (zero, omega arith, record { statement = r.0; quote = r.1; from = r.2; seq = r.3 }))
    (λ (rest : told_receipt m es hs ≡ true). let r = some_quote m es hs rest in (suc r.0, (let lt = r.1 in omega (arith, lt)), record { statement = r.2.statement; quote = r.2.quote; from = r.2.from; seq = r.2.seq }))
    (or_cases (is_told_receipt m e x) (told_receipt m es hs) h)

one_quote : (m : Message) (es : List Entry) (hs : List (Option (List ℕ))) (k : ℕ) (a : Authenticator) → quote_by (slice_get es k) (slice_get hs k) ≡ Some a → a.node ≡ m.from → a.seq ≡ m.seq → told_receipt m es hs ≡ true
one_quote m [] hs zero a is from seq = absurd cc
one_quote m [] hs (suc k) a is from seq = absurd cc
one_quote m (e ∷ es) [] k a is from seq = let none = none_there (slice_get (e ∷ es) k) k in absurd (cc (none, is))
one_quote m (e ∷ es) (x ∷ hs) zero a is from seq = or_first (is_told_receipt m e x) (told_receipt m es hs) (quotes_receipt m e x a is from seq)
one_quote m (e ∷ es) (x ∷ hs) (suc k) a is from seq = or_second (is_told_receipt m e x) (told_receipt m es hs) (one_quote m es hs k a is from seq)

-- ---- the statements of a segment behind its end

not_zero : (k : ℕ) (b : Bool) → (suc k == 0) ≡ b → (suc k == 0) ≡ false
not_zero k true e = let at = (Decides-eqb (suc k) 0).0 e in absurd (omega (arith, at))
not_zero k false e = e

behind_end : (s : Segment) (f : Option Findings) (k : ℕ) → stated_in (form.Segment s) f (suc k) ≡ quote_by (slice_get s.entries k) (slice_get (found_quotes f) k)
behind_end s None k = sym (none_there (slice_get s.entries k) k)
behind_end s (Some (found.Segment f)) k =
    let z = not_zero k (suc k == 0) refl in
    let at : suc k - 1 ≡ k = omega arith in
    let is : in_segment s f (suc k) ≡ quote_at s f (suc k - 1) = rw z refl in
    is ∙ ap (λ n. quote_at s f n) at
behind_end s (Some (found.Send h)) k = sym (none_there (slice_get s.entries k) k)
behind_end s (Some (found.Ack h i)) k = sym (none_there (slice_get s.entries k) k)

-- ---- the challenges that are received

module _ (j : ℕ) (x : Fields) (f : Option Findings) (o : Option Checked) where
  abbrev at_place : ℕ → Bool
  at_place k = is_among (received j (stated_in x f (suc k))) o

  some_received : (n : ℕ) → is_received j x f n o ≡ true → (k : ℕ) × (k < n) × (at_place k ≡ true)
  some_received zero h = absurd cc
  some_received (suc n) h = ⊎_elim
      (λ (first : is_received j x f n o ≡ true). let r = some_received n first in (r.0, (let lt = r.1 in omega (arith, lt)), r.2))
      (λ (last : at_place n ≡ true). (n, omega arith, last))
      (or_cases (is_received j x f n o) (at_place n) h)

  one_received : (n k : ℕ) → k < n → at_place k ≡ true → is_received j x f n o ≡ true
  one_received zero k lt h = absurd (omega (arith, lt))
  one_received (suc n) k lt h = ⊎_elim
      (λ (first : k < n). or_first (is_received j x f n o) (at_place n) (one_received n k first h))
      (λ (le : n ≤ k). let at : k ≡ n = omega (arith, le, lt) in or_second (is_received j x f n o) (at_place n) (subst (λ i. at_place i ≡ true) at h))
      (cases_lt k n)

  among_none : ((s : Sending) → is_at s o ≡ false) → (r : Option Sending) → is_among r o ≡ false
  among_none never None = refl
  among_none never (Some s) = never s

  none_received : ((s : Sending) → is_at s o ≡ false) → (n : ℕ) → is_received j x f n o ≡ false
  none_received never zero = refl
  none_received never (suc n) = or_rest (is_received j x f n o) (at_place n) false (none_received never n) (among_none never (received j (stated_in x f (suc n))))

received_means : (j : ℕ) (p : Option Authenticator) (c : Checked) (m : Message) → c.item.fields ≡ form.Send m → is_among (received j p) (Some c) ≡ true → (a : Authenticator) × (p ≡ Some a) × (m.from ≡ a.node) × (m.to ≡ j) × (m.seq ≡ a.seq)
received_means j None c m is h = absurd cc
received_means j (Some a) c m is h =
    let s : Sending = record { from = a.node; to = j; seq = a.seq } in
    let t = (same_sending s m).0 (sym (ap (λ (y : Fields). is_eq (sending_cmp s y)) is) ∙ h) in
    (a, refl, t.0, t.1, t.2)

means_received : (j : ℕ) (p : Option Authenticator) (c : Checked) (m : Message) (a : Authenticator) → c.item.fields ≡ form.Send m → p ≡ Some a → m.from ≡ a.node → m.to ≡ j → m.seq ≡ a.seq → is_among (received j p) (Some c) ≡ true
means_received j p c m a is names from to seq =
    let s : Sending = record { from = a.node; to = j; seq = a.seq } in
    ap (λ (q : Option Authenticator). is_among (received j q) (Some c)) names ∙ ap (λ (y : Fields). is_eq (sending_cmp s y)) is ∙ (same_sending s m).1 (from, to, seq)

-- A segment answers the send challenges that are received in it, and no other.
send_received : (s : Segment) (f : Option Findings) (c : Checked) (m : Message) → c.item.fields ≡ form.Send m → is_received s.node (form.Segment s) f (length s.entries) (Some c) ≡ told_send m (form.Segment s) f
send_received s f c m is = same_test (is_received s.node (form.Segment s) f (length s.entries) (Some c)) (told_send m (form.Segment s) f)
    (λ h.
    let r = some_received s.node (form.Segment s) f (Some c) (length s.entries) h in
    let t = received_means s.node (stated_in (form.Segment s) f (suc r.0)) c m is r.2 in
    let at : stated_in (form.Segment s) f (suc r.0) ≡ Some t.0 = t.1 in
    both_and (s.node == m.to) (told_receipt m s.entries (found_quotes f)) ((Decides-eqb s.node m.to).1 (sym t.3)) (one_quote m s.entries (found_quotes f) r.0 t.0 (sym (behind_end s f r.0) ∙ at) (sym t.2) (sym t.4)))
    (λ h.
    let b = and_both (s.node == m.to) (told_receipt m s.entries (found_quotes f)) h in
    let r = some_quote m s.entries (found_quotes f) b.1 in
    let q = r.2 in
    let at : stated_in (form.Segment s) f (suc r.0) ≡ Some q.statement = behind_end s f r.0 ∙ q.quote in
    one_received s.node (form.Segment s) f (Some c) (length s.entries) r.0 r.1 (means_received s.node (stated_in (form.Segment s) f (suc r.0)) c m q.statement is at (sym q.from) (sym ((Decides-eqb s.node m.to).0 b.0)) (sym q.seq)))

-- ---- all that a segment answers

is_send : Fields → Bool
is_send (form.Auth a) = false
is_send (form.Segment s) = false
is_send (form.Audit c) = false
is_send (form.Send m) = true
is_send (form.Ack a) = false

sent : (y : Fields) → is_send y ≡ true → (m : Message) × (y ≡ form.Send m)
unfolding is_send
sent (form.Auth a) h = absurd cc
sent (form.Segment s) h = absurd cc
sent (form.Audit c) h = absurd cc
sent (form.Send m) h = (m, refl)
sent (form.Ack a) h = absurd cc

unsent : (y : Fields) → is_send y ≡ false → (s : Sending) → is_eq (sending_cmp s y) ≡ false
unfolding is_send
unsent (form.Auth a) h s = refl
unsent (form.Segment t) h s = refl
unsent (form.Audit c) h s = refl
unsent (form.Send m) h s = absurd cc
unsent (form.Ack a) h s = refl

audits_alone : (y : Fields) (d : Checked) → is_send y ≡ false → told_audit y d.item.fields ≡ told_answers y d
unfolding is_send
audits_alone (form.Auth a) d h = refl
audits_alone (form.Segment s) d h = refl
audits_alone (form.Audit c) d h = refl
audits_alone (form.Send m) d h = absurd cc
audits_alone (form.Ack a) d h = refl

of_segment : (j : ℕ) (x : Fields) (f : Option Findings) (c : Checked) (m : Message) → IsSegmentOf j x → c.item.fields ≡ form.Send m → is_received j x f (positions x - 1) (Some c) ≡ told_send m x f
of_segment j (form.Auth a) f c m own is = absurd own
of_segment j (form.Segment s) f c m own is =
    let long : positions (form.Segment s) - 1 ≡ length s.entries = omega arith in
    subst (λ n. is_received j (form.Segment s) f n (Some c) ≡ told_send m (form.Segment s) f) (sym long)
    (subst (λ i. is_received i (form.Segment s) f (length s.entries) (Some c) ≡ told_send m (form.Segment s) f) own (send_received s f c m is))
of_segment j (form.Audit d) f c m own is = absurd own
of_segment j (form.Send n) f c m own is = absurd own
of_segment j (form.Ack a) f c m own is = absurd own

module _ (j : ℕ) (d : Checked) (own : IsSegmentOf j d.item.fields) where
  abbrev in_all : Option Checked → Bool
  in_all o = is_received j d.item.fields d.findings (positions d.item.fields - 1) o

  by_form : (c : Checked) (b : Bool) → is_send c.item.fields ≡ b → (in_all (Some c) || told_audit c.item.fields d.item.fields) ≡ told_answers c.item.fields d
  by_form c true is =
      let t = sent c.item.fields is in
      let no_audit : told_audit c.item.fields d.item.fields ≡ false = ap (λ (y : Fields). told_audit y d.item.fields) t.1 in
      or_no_rest (in_all (Some c)) (told_audit c.item.fields d.item.fields) (told_answers c.item.fields d) no_audit (of_segment j d.item.fields d.findings c t.0 own t.1 ∙ sym (ap (λ (y : Fields). told_answers y d) t.1))
  by_form c false is =
      or_rest (in_all (Some c)) (told_audit c.item.fields d.item.fields) (told_answers c.item.fields d)
      (none_received j d.item.fields d.findings (Some c) (λ s. unsent c.item.fields is s) (positions d.item.fields - 1)) (audits_alone c.item.fields d is)

  whole : (o : Option Checked) → (in_all o || audited_by o (Some d)) ≡ answered_by o (Some d)
  whole None = or_rest (in_all None) false false (none_received j d.item.fields d.findings None (λ s. refl) (positions d.item.fields - 1)) refl
  whole (Some c) = by_form c (is_send c.item.fields) refl

-- ---- lists without what is answered

pub both_filters : {X : Type 0} (p q : X → Bool) (xs : List X) → filter (λ x. not (q x)) (filter (λ x. not (p x)) xs) ≡ filter (λ x. not (p x || q x)) xs
both_filters p q [] = refl
both_filters p q (x ∷ xs) = by_head (p x) (both_filters p q xs)
  where
    by_head : (b : Bool) → filter (λ y. not (q y)) (filter (λ y. not (p y)) xs) ≡ filter (λ y. not (p y || q y)) xs
        → filter (λ y. not (q y)) (cond (not b) (x ∷ filter (λ y. not (p y)) xs) (filter (λ y. not (p y)) xs)) ≡ cond (not (b || q x)) (x ∷ filter (λ y. not (p y || q y)) xs) (filter (λ y. not (p y || q y)) xs)
    by_head true rest = rest
    by_head false rest = ap (λ l. cond (not (q x)) (x ∷ l) l) rest

module _ (items : List Checked) where
  -- what one entry more takes
  pub one_more : (j : ℕ) (d : Checked) (n : ℕ) (old mid new : List ℕ)
      → mid ≡ filter (λ i. not (is_received j d.item.fields d.findings n (slice_get items i))) old
      → new ≡ filter (λ i. not (is_among (received j (stated_in d.item.fields d.findings (n + 1))) (slice_get items i))) mid
      → new ≡ filter (λ i. not (is_received j d.item.fields d.findings (n + 1) (slice_get items i))) old
  one_more j d n old mid new first last =
      let at : suc n ≡ n + 1 = omega arith in
      let p : ℕ → Bool = λ i. is_received j d.item.fields d.findings n (slice_get items i) in
      let q : ℕ → Bool = λ i. is_among (received j (stated_in d.item.fields d.findings (suc n))) (slice_get items i) in
      let here : new ≡ filter (λ i. not (q i)) mid = subst (λ k. new ≡ filter (λ i. not (is_among (received j (stated_in d.item.fields d.findings k)) (slice_get items i))) mid) (sym at) last in
      subst (λ k. new ≡ filter (λ i. not (is_received j d.item.fields d.findings k (slice_get items i))) old) at (here ∙ ap (λ l. filter (λ i. not (q i)) l) first ∙ both_filters p q old)

  -- What stays was there.
  pub still_here : (j : ℕ) (d : Checked) (old new : List ℕ) → new ≡ filter (λ i. not (is_received j d.item.fields d.findings (positions d.item.fields - 1) (slice_get items i))) old → (i : ℕ) → Contains new i → Contains old i
  still_here j d old new is i has = (passing (λ (k : ℕ). not (is_received j d.item.fields d.findings (positions d.item.fields - 1) (slice_get items k))) old i (subst (λ (l : List ℕ). Contains l i) is has)).0

  -- What a segment takes in two steps is what it answers.
  pub segment_takes : (j n : ℕ) (d : Checked) → slice_get items n ≡ Some d → IsSegmentAt items j n → (old mid new : List ℕ)
      → mid ≡ filter (λ i. not (is_received j d.item.fields d.findings (positions d.item.fields - 1) (slice_get items i))) old
      → new ≡ filter (λ i. not (audited_by (slice_get items i) (slice_get items n))) mid
      → new ≡ filter (λ i. not (answers_at items i n)) old
  segment_takes j n d here (c, there, own) old mid new first last =
      let mine : IsSegmentOf j d.item.fields = subst (λ (k : Checked). IsSegmentOf j k.item.fields) (same_Some c d (sym there ∙ here)) own in
      let p : ℕ → Bool = λ i. is_received j d.item.fields d.findings (positions d.item.fields - 1) (slice_get items i) in
      let q : ℕ → Bool = λ i. audited_by (slice_get items i) (slice_get items n) in
      let same : (i : ℕ) → (p i || q i) ≡ answers_at items i n = λ i. ap (λ (o : Option Checked). p i || audited_by (slice_get items i) o) here ∙ whole j d mine (slice_get items i) ∙ sym (ap (answered_by (slice_get items i)) here) in
      last ∙ ap (λ l. filter (λ i. not (q i)) l) first ∙ both_filters p q old ∙ (λ k. filter (λ i. not (same i k)) old)

-- ---- a segment is no audit challenge

pub no_audit : (y z : Fields) → is_segment y ≡ true → told_audit y z ≡ false
no_audit (form.Auth a) z h = refl
no_audit (form.Segment s) z h = refl
no_audit (form.Audit c) z h = absurd cc
no_audit (form.Send m) z h = refl
no_audit (form.Ack a) z h = refl

pub among_is : (items : List Checked) (r : Option Sending) (s : Sending) (old new : List ℕ) → r ≡ Some s → new ≡ filter (λ i. not (is_at s (slice_get items i))) old → new ≡ filter (λ i. not (is_among r (slice_get items i))) old
among_is items r s old new names is = subst (λ (t : Option Sending). new ≡ filter (λ i. not (is_among t (slice_get items i))) old) (sym names) is

pub among_nothing : (items : List Checked) (r : Option Sending) (old : List ℕ) → r ≡ None → old ≡ filter (λ i. not (is_among r (slice_get items i))) old
among_nothing items r old none = subst (λ (t : Option Sending). old ≡ filter (λ i. not (is_among t (slice_get items i))) old) (sym none) (all_stay (λ (i : ℕ). false) old (λ k d lt. refl))

-- ---- receipts, by their positions

-- What answers a send challenge as a segment has a receipt of its message.
pub told_receipt_at : (m : Message) (x : Fields) (f : Option Findings) → told_send m x f ≡ true → (j : ℕ) → IsSegmentOf j x → (k : ℕ) × (receipt_in x f k ≡ Some (record { from = m.from; to = m.to; seq = m.seq }))
told_receipt_at m (form.Auth a) f h j own = absurd own
told_receipt_at m (form.Segment s) f h j own =
    let b = and_both (s.node == m.to) (told_receipt m s.entries (found_quotes f)) h in
    let r = some_quote m s.entries (found_quotes f) b.1 in
    let q = r.2 in
    let at : stated_in (form.Segment s) f (suc r.0) ≡ Some q.statement = behind_end s f r.0 ∙ q.quote in
    let to : s.node ≡ m.to = (Decides-eqb s.node m.to).0 b.0 in
    let from : q.statement.node ≡ m.from = q.from in
    let seq : q.statement.seq ≡ m.seq = q.seq in
    let one : Sending = record { from = q.statement.node; to = s.node; seq = q.statement.seq } in
    let other : Sending = record { from = m.from; to = m.to; seq = m.seq } in
    let same : one ≡ other = λ i. record { from = from i; to = to i; seq = seq i } in
    (suc r.0, ap (received s.node) at ∙ ap Some same)
told_receipt_at m (form.Audit d) f h j own = absurd own
told_receipt_at m (form.Send n) f h j own = absurd own
told_receipt_at m (form.Ack a) f h j own = absurd own

-- And what has one answers it.
pub receipt_told : (m : Message) (x : Fields) (f : Option Findings) (k : ℕ) → receipt_in x f k ≡ Some (record { from = m.from; to = m.to; seq = m.seq }) → told_send m x f ≡ true
receipt_told m (form.Auth a) f k h = absurd cc
receipt_told m (form.Segment s) f zero h = absurd cc
receipt_told m (form.Segment s) f (suc k) h =
    let r = received_from s.node (stated_in (form.Segment s) f (suc k)) (record { from = m.from; to = m.to; seq = m.seq }) h in
    both_and (s.node == m.to) (told_receipt m s.entries (found_quotes f)) ((Decides-eqb s.node m.to).1 r.3) (one_quote m s.entries (found_quotes f) k r.0 (sym (behind_end s f k) ∙ r.1) r.2 r.4)
receipt_told m (form.Audit d) f k h = absurd cc
receipt_told m (form.Send n) f k h = absurd cc
receipt_told m (form.Ack a) f k h = absurd cc
