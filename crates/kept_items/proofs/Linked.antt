-- Entries of segments as links of the chain of their log.
use Rattle.std.proofs.Common.{◌≡◌, ◌≢◌, ℕ, zero, suc, ◌+◌, ◌-◌, ◌<◌, ◌≤◌, Bool, true, false, List, [], ◌∷◌, length, get_or, Option, Some, None, refl, sym, ap, subst, ◌∙◌, inl, inr, ⊎_elim, arith}
use Rattle.std.specs.Prelude.{◌⊎◌, ◌&&◌, ◌||◌, ◌==◌, slice_get}
use Rattle.std.specs.Str.{bytes_eq}
use Rattle.std.specs.Cmp.Lexicographic.{bytes_decides}
use Rattle.std.proofs.lemmas.Bool.{cases_lt}
use Rattle.std.proofs.lemmas.Bool.Decides.{Decides-eqb}
use Rattle.std.proofs.lemmas.Option.{same_Some}
use Rattle.log_chain.specs.declared.entry.Entry.{Entry}
use Rattle.log_chain.specs.Chain.{base, entry_hash, hashes}
use Rattle.replay_verifier.specs.Deviation.{is_base}
use Rattle.item_forms.specs.declared.forms.AuditChallenge.{AuditChallenge}
use Rattle.item_forms.specs.declared.forms.Fields.{Fields}
use Rattle.item_forms.specs.declared.forms.Fields.TheVariants as form
use Rattle.item_forms.specs.declared.forms.Segment.{Segment}
use Rattle.item_forms.specs.declared.forms.Statement.{Statement}
use Rattle.item_forms.specs.Segments.{has_pair, logged}
use Rattle.evidence_set.specs.Challenges.{answers_audit, covers}
use Rattle.kept_evidence.specs.Telling.{IsSegmentOf}
use Rattle.kept_entries.specs.Shared.{SharedEntry, entries_of, hashes_of}
use Rattle.kept_items.specs.declared.link.Link.{Link}
use Rattle.kept_items.specs.Links.{Agree, AnswersAreInherited, IsBehind, first_hash, link_in, links}
use Rattle.kept_items.specs.within.Parts.{before}

-- ---- what a segment has of them

head_is : (g h : List ℕ) (gs hs : List (List ℕ)) → g ∷ gs ≡ h ∷ hs → g ≡ h
head_is g h gs hs is = cc

tail_is : (g h : List ℕ) (gs hs : List (List ℕ)) → g ∷ gs ≡ h ∷ hs → gs ≡ hs
tail_is g h gs hs is = cc

pub linked : (prev : List ℕ) (xs : List SharedEntry) (k : ℕ) (x : SharedEntry) → hashes_of xs ≡ hashes prev (entries_of xs) → slice_get xs k ≡ Some x
    → slice_get (links prev (entries_of xs)) k ≡ Some (record { prev = before prev xs k; seq = x.entry.seq; hash = x.hash })
linked prev [] k x hashed at = absurd cc
linked prev (y ∷ ys) zero x hashed at =
    let first : y.hash ≡ entry_hash prev y.entry = head_is _ _ (hashes_of ys) (hashes (entry_hash prev y.entry) (entries_of ys)) hashed in
    let same : y ≡ x = same_Some y x at in
    ap (λ (h : List ℕ). Some (record { prev = prev; seq = y.entry.seq; hash = h })) (sym first)
    ∙ ap (λ (z : SharedEntry). Some (record { prev = prev; seq = z.entry.seq; hash = z.hash })) same
linked prev (y ∷ ys) (suc k) x hashed at =
    let first : y.hash ≡ entry_hash prev y.entry = head_is _ _ (hashes_of ys) (hashes (entry_hash prev y.entry) (entries_of ys)) hashed in
    let others : hashes_of ys ≡ hashes (entry_hash prev y.entry) (entries_of ys) = tail_is y.hash (entry_hash prev y.entry) _ _ hashed in
    ap (λ (h : List ℕ). slice_get (links h (entries_of ys)) k) (sym first)
    ∙ linked y.hash ys k x (subst (λ (h : List ℕ). hashes_of ys ≡ hashes h (entries_of ys)) (sym first) others) at

pub unlinked : (prev : List ℕ) (xs : List SharedEntry) (k : ℕ) → slice_get xs k ≡ None → slice_get (links prev (entries_of xs)) k ≡ None
unlinked prev [] k none = refl
unlinked prev (y ∷ ys) zero none = absurd cc
unlinked prev (y ∷ ys) (suc k) none = unlinked (entry_hash prev y.entry) ys k none

pub before_first : (prev : List ℕ) (xs : List SharedEntry) → before prev xs 0 ≡ prev
before_first prev [] = refl
before_first prev (x ∷ xs) = refl

before_next : (prev : List ℕ) (xs : List SharedEntry) (k : ℕ) (x : SharedEntry) → k < length xs → x ≡ get_or xs k x → before prev xs (suc k) ≡ x.hash
before_next prev [] k x inside is = absurd (omega (arith, inside))
before_next prev (y ∷ ys) zero x inside is = before_first y.hash ys ∙ ap (λ (z : SharedEntry). z.hash) (sym is)
before_next prev (y ∷ ys) (suc k) x inside is = before_next y.hash ys k x (omega (arith, inside)) is

pub before_at : (prev : List ℕ) (xs : List SharedEntry) (n k : ℕ) (x : SharedEntry) → n ≡ suc k → k < length xs → x ≡ get_or xs k x → before prev xs n ≡ x.hash
before_at prev xs n k x at inside is = ap (before prev xs) at ∙ before_next prev xs k x inside is

-- ---- from one to the one before it

first_prev : (p : List ℕ) (es : List Entry) (x : Link) → slice_get (links p es) 0 ≡ Some x → x.prev ≡ p
first_prev p [] x h = absurd cc
first_prev p (e ∷ es) x h = sym (ap (λ (l : Link). l.prev) (same_Some (record { prev = p; seq = e.seq; hash = entry_hash p e }) x h))

back : (p : List ℕ) (es : List Entry) (k : ℕ) (x : Link) → slice_get (links p es) (suc k) ≡ Some x → (u : Link) × (slice_get (links p es) k ≡ Some u) × (u.hash ≡ x.prev)
back p [] k x h = absurd cc
back p (e ∷ es) zero x h = (record { prev = p; seq = e.seq; hash = entry_hash p e }, refl, sym (first_prev (entry_hash p e) es x h))
back p (e ∷ es) (suc k) x h = back (entry_hash p e) es k x h

abbrev at : Segment → ℕ → Option Link
at s k = slice_get (links s.prev s.entries) k

module _ (s t : Segment) (agree : Agree (form.Segment s) (form.Segment t)) where
  descend : (a b d i k : ℕ) → i ≡ a + d → k ≡ b + d → (z : Link) → at s i ≡ Some z → at t k ≡ Some z → (w : Link) × (at s a ≡ Some w) × (at t b ≡ Some w)
  descend a b zero i k ei ek z hs ht =
      let to_a : i ≡ a = omega (arith, ei) in
      let to_b : k ≡ b = omega (arith, ek) in
      (z, subst (λ n. at s n ≡ Some z) to_a hs, subst (λ n. at t n ≡ Some z) to_b ht)
  descend a b (suc d) i k ei ek z hs ht =
      let to_a : i ≡ suc (a + d) = omega (arith, ei) in
      let to_b : k ≡ suc (b + d) = omega (arith, ek) in
      let (u, hu, pu) = back s.prev s.entries (a + d) z (subst (λ n. at s n ≡ Some z) to_a hs) in
      let (v, hv, pv) = back t.prev t.entries (b + d) z (subst (λ n. at t n ≡ Some z) to_b ht) in
      let same : u ≡ v = agree.one (a + d) (b + d) u v hu hv (pu ∙ sym pv) in
      descend a b d (a + d) (b + d) refl refl u hu (subst (λ l. at t (b + d) ≡ Some l) (sym same) hv)

  begins_at : (b : ℕ) (w : Link) → at t b ≡ Some w → w.prev ≡ base → t.prev ≡ base
  begins_at zero w here is = sym (first_prev t.prev t.entries w here) ∙ is
  begins_at (suc b) w here is = let (v, hv, pv) = back t.prev t.entries b w here in absurd (agree.based b v hv (pv ∙ is))

  -- one that has an entry with as many before it begins where this one does
  pub begins_too : (k i : ℕ) (a : Link) → at s k ≡ Some a → at t i ≡ Some a → k ≤ i → s.prev ≡ base → t.prev ≡ base
  begins_too k i a here there le is =
      let (w, hs, ht) = descend 0 (i - k) k k i (omega arith) (omega (arith, le)) a here there in
      begins_at (i - k) w ht (first_prev s.prev s.entries w hs ∙ is)

  -- one that has an entry, and d before it, has what stands up to d before it here
  pub has_too : (j d k i : ℕ) (a b : Link) → j + d ≡ k → at s k ≡ Some a → at t i ≡ Some a → d ≤ i → at s j ≡ Some b → (n : ℕ) × (at t n ≡ Some b)
  has_too j d k i a b apart here there le at_j =
      let (w, hs, ht) = descend j (i - d) d k i (sym apart) (omega (arith, le)) a here there in
      (i - d, subst (λ l. at t (i - d) ≡ Some l) (same_Some w b (sym hs ∙ at_j)) ht)

-- ---- pairs of a number and a hash

abbrev Paired : List ℕ → List Entry → ℕ → List ℕ → Type 0
Paired p es seq hash = (k : ℕ) × (x : Link) × (slice_get (links p es) k ≡ Some x) × (x.seq ≡ seq) × (x.hash ≡ hash)

paired_by : (p : List ℕ) (e : Entry) (es : List Entry) (seq : ℕ) (hash : List ℕ) (same hit more : Bool) → (e.seq == seq) ≡ same → bytes_eq (entry_hash p e) hash ≡ hit
    → ((same && hit) || more) ≡ true → (more ≡ true → Paired (entry_hash p e) es seq hash) → Paired p (e ∷ es) seq hash
paired_by p e es seq hash true true more same hit h later =
    (zero, record { prev = p; seq = e.seq; hash = entry_hash p e }, refl, (Decides-eqb e.seq seq).0 same, (bytes_decides (entry_hash p e) hash).0 hit)
paired_by p e es seq hash true false more same hit h later = let (k, x, here, q, r) = later h in (suc k, x, here, q, r)
paired_by p e es seq hash false hit more same is h later = let (k, x, here, q, r) = later h in (suc k, x, here, q, r)

paired : (p : List ℕ) (es : List Entry) (seq : ℕ) (hash : List ℕ) → has_pair (logged p es) seq hash ≡ true → Paired p es seq hash
paired p [] seq hash h = absurd cc
paired p (e ∷ es) seq hash h = paired_by p e es seq hash (e.seq == seq) (bytes_eq (entry_hash p e) hash) (has_pair (logged (entry_hash p e) es) seq hash) refl refl h (λ more. paired (entry_hash p e) es seq hash more)

either_true : (a b c : Bool) → a ≡ true → b ≡ true → ((a && b) || c) ≡ true
either_true true true c p q = refl
either_true true false c p q = absurd cc
either_true false b c p q = absurd cc

or_later : (a b : Bool) → b ≡ true → (a || b) ≡ true
or_later true b h = refl
or_later false b h = h

has_it : (p : List ℕ) (es : List Entry) (k : ℕ) (x : Link) → slice_get (links p es) k ≡ Some x → has_pair (logged p es) x.seq x.hash ≡ true
has_it p [] k x h = absurd cc
has_it p (e ∷ es) zero x h =
    let same = same_Some (record { prev = p; seq = e.seq; hash = entry_hash p e }) x h in
    either_true (e.seq == x.seq) (bytes_eq (entry_hash p e) x.hash) (has_pair (logged (entry_hash p e) es) x.seq x.hash)
    ((Decides-eqb e.seq x.seq).1 (ap (λ (l : Link). l.seq) same)) ((bytes_decides (entry_hash p e) x.hash).1 (ap (λ (l : Link). l.hash) same))
has_it p (e ∷ es) (suc k) x h = or_later ((e.seq == x.seq) && bytes_eq (entry_hash p e) x.hash) (has_pair (logged (entry_hash p e) es) x.seq x.hash) (has_it (entry_hash p e) es k x h)

has_at : (t : Segment) (k : ℕ) (x : Link) (seq : ℕ) (hash : List ℕ) → at t k ≡ Some x → x.seq ≡ seq → x.hash ≡ hash → has_pair (logged t.prev t.entries) seq hash ≡ true
has_at t k x seq hash here q r =
    subst (λ h. has_pair (logged t.prev t.entries) seq h ≡ true) r
    (subst (λ n. has_pair (logged t.prev t.entries) n x.hash ≡ true) q (has_it t.prev t.entries k x here))

-- ---- what answers

first_holds : (a b : Bool) → (a && b) ≡ true → a ≡ true
first_holds true b h = refl
first_holds false b h = absurd cc

second_holds : (a b : Bool) → (a && b) ≡ true → b ≡ true
second_holds true b h = h
second_holds false b h = absurd cc

both_hold : (a b : Bool) → a ≡ true → b ≡ true → (a && b) ≡ true
both_hold true b p q = q
both_hold false b p q = absurd cc

-- Each segment that agrees with s, and has that entry with d before it, covers what is named.
abbrev Hand : Segment → Option Statement → Statement → ℕ → Link → Type 0
Hand s first last d a = (t : Segment) (i : ℕ) → Agree (form.Segment s) (form.Segment t) → at t i ≡ Some a → d ≤ i → covers first last t ≡ true

abbrev Beside : Option Statement → Statement → (g h : List ℕ) → Type 0
Beside first last g h = ((last.hash ≡ g) × (first_hash first ≡ h)) ⊎ ((f : Statement) × (first ≡ Some f) × (f.hash ≡ g) × (last.hash ≡ h))

abbrev Handed : Segment → Option Statement → Statement → Type 0
Handed s first last = (k d : ℕ) × (a : Link) × (h : List ℕ) × (at s k ≡ Some a) × Beside first last a.hash h × IsBehind (form.Segment s) k d h × Hand s first last d a

-- the first entry, where there is one
opens : (p : List ℕ) (es : List Entry) (k : ℕ) (x : Link) → slice_get (links p es) k ≡ Some x → (w : Link) × (slice_get (links p es) 0 ≡ Some w) × (w.prev ≡ p)
opens p [] k x h = absurd cc
opens p (e ∷ es) k x h = (record { prev = p; seq = e.seq; hash = entry_hash p e }, refl, refl)

from_beginning : (s : Segment) (last : Statement) → covers None last s ≡ true → Handed s None last
from_beginning s last h =
    let begins : s.prev ≡ base = (bytes_decides s.prev base).0 (first_holds (is_base s.prev) _ h) in
    let (k, a, here, q, r) = paired s.prev s.entries last.seq last.hash (second_holds (is_base s.prev) _ h) in
    let (w, at_0, before) = opens s.prev s.entries k a here in (
      k,
      k,
      a,
      base,
      here,
      inl (sym r, refl),
      inr (w, refl, at_0, before ∙ begins),
      λ t i agree there le.
          both_hold (is_base t.prev) _ ((bytes_decides t.prev base).1 (begins_too s t agree k i a here there le begins)) (has_at t i a last.seq last.hash there q r),
    )

from_entry : (s : Segment) (f last : Statement) → covers (Some f) last s ≡ true → Handed s (Some f) last
from_entry s f last h =
    let (n, b, at_n, q, r) = paired s.prev s.entries f.seq f.hash (first_holds (has_pair (logged s.prev s.entries) f.seq f.hash) _ h) in
    let (k, a, here, u, v) = paired s.prev s.entries last.seq last.hash (second_holds (has_pair (logged s.prev s.entries) f.seq f.hash) _ h) in
    ⊎_elim
    (λ (lt : n < k).
    let apart : n + (k - n) ≡ k = omega (arith, lt) in (
      k,
      k - n,
      a,
      f.hash,
      here,
      inl (sym v, refl),
      inl (n, b, apart, at_n, r),
      λ t i agree there le.
          let (m, at_m) = has_too s t agree n (k - n) k i a b apart here there le at_n in
          both_hold (has_pair (logged t.prev t.entries) f.seq f.hash) _ (has_at t m b f.seq f.hash at_m q r) (has_at t i a last.seq last.hash there u v),
    ))
    (λ (most : k ≤ n).
    let apart : k + (n - k) ≡ n = omega (arith, most) in (
      n,
      n - k,
      b,
      last.hash,
      at_n,
      inr (f, refl, sym r, refl),
      inl (k, a, apart, here, v),
      λ t i agree there le.
          let (m, at_m) = has_too s t agree k (n - k) n i b a apart at_n there le here in
          both_hold (has_pair (logged t.prev t.entries) f.seq f.hash) _ (has_at t i b f.seq f.hash there q r) (has_at t m a last.seq last.hash at_m u v),
    ))
    (cases_lt n k)

handed : (s : Segment) (first : Option Statement) (last : Statement) → covers first last s ≡ true → Handed s first last
handed s None last h = from_beginning s last h
handed s (Some f) last h = from_entry s f last h

answered_too : (c : AuditChallenge) (s : Segment) (d : ℕ) (a : Link) → Hand s c.first c.last d a → (y : Fields) (i : ℕ) → IsSegmentOf c.node y → Agree (form.Segment s) y → link_in y i ≡ Some a → d ≤ i → answers_audit c y ≡ true
answered_too c s d a hand (form.Auth b) i own agree there le = absurd own
answered_too c s d a hand (form.Segment t) i own agree there le = both_hold (t.node == c.node) _ ((Decides-eqb t.node c.node).1 own) (hand t i agree there le)
answered_too c s d a hand (form.Audit e) i own agree there le = absurd own
answered_too c s d a hand (form.Send m) i own agree there le = absurd own
answered_too c s d a hand (form.Ack b) i own agree there le = absurd own

pub answers_are_inherited : AnswersAreInherited
answers_are_inherited c (form.Auth b) h = absurd cc
answers_are_inherited c (form.Segment s) h =
    let (k, d, a, g, here, named, stands, hand) = handed s c.first c.last (second_holds (s.node == c.node) _ h) in
    (k, d, a, g, here, named, stands, λ y i own agree there le. answered_too c s d a hand y i own agree there le)
answers_are_inherited c (form.Audit d) h = absurd cc
answers_are_inherited c (form.Send m) h = absurd cc
answers_are_inherited c (form.Ack b) h = absurd cc
