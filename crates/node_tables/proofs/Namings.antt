-- Namings by their two hashes.
use Rattle.std.proofs.Common.{◌≡◌, ℕ, ◌+◌, ◌-◌, ◌<◌, ◌≤◌, Bool, true, false, cond, leb, ltb, List, length, get_or, insert, Option, Some, None, refl, sym, subst, ◌∙◌, ◌⊎◌, inl, inr, ⊎_elim, arith}
use Rattle.std.specs.Prelude.{◌==◌}
use Rattle.std.specs.List.{remove}
use Rattle.std.specs.List.Sorted.{IsPartitionPoint, IsPartitionedBy}
use Rattle.std.specs.Ordering.{nat_cmp, ordering_then}
use Rattle.std.specs.declared.cmp.Ordering.{Ordering}
use Rattle.std.specs.declared.cmp.Ordering.TheVariants.{Less, Equal, Greater}
use Rattle.std.proofs.lemmas.Bool.{cases_lt}
use Rattle.std.proofs.lemmas.Bool.Decides.{Decides-eqb, nat_tests}
use Rattle.std.proofs.lemmas.Cmp.{ranked}
use Rattle.std.proofs.lemmas.List.Edits.{get_or-insert_above, get_or-insert_at, get_or-insert_below, length-insert}
use Rattle.node_tables.specs.declared.naming.Fronts.{Fronts}
use Rattle.node_tables.specs.declared.naming.Naming.{Naming}
use Rattle.node_tables.specs.Hashed.{IsUpTo, StandByPairs}
use Rattle.node_tables.specs.within.Named.{IsOf, IsOther, is_less, is_most, stands_before, stands_up_to}
use Rattle.node_tables.proofs.Marked.{removed_length, stands, was_inside, was_ordered}

-- ---- two numbers, the one before the other

abbrev Passes : (a b : ℕ) → Bool → Type 0
Passes a b c = (a < b) ⊎ ((a ≡ b) × (c ≡ true))

below : (a b : ℕ) → ltb a b ≡ true → a < b
below a b h = grind (arith, nat_tests)

said_by : (a b : ℕ) (c e : Bool) → (a == b) ≡ e → cond e c (ltb a b) ≡ true → Passes a b c
said_by a b c true is h = inr ((Decides-eqb a b).0 is, h)
said_by a b c false is h = inl (below a b h)

said : (a b : ℕ) (c : Bool) → cond (a == b) c (ltb a b) ≡ true → Passes a b c
said a b c h = said_by a b c (a == b) refl h

less_is : (a b : ℕ) → a < b → ltb a b ≡ true
less_is a b lt = grind (arith, nat_tests)

told_by : (a b : ℕ) (c e : Bool) → (a == b) ≡ e → Passes a b c → cond e c (ltb a b) ≡ true
told_by a b c true is (inl lt) = let same = (Decides-eqb a b).0 is in absurd (omega (arith, same, lt))
told_by a b c true is (inr same) = same.1
told_by a b c false is (inl lt) = less_is a b lt
told_by a b c false is (inr same) = let yes = (Decides-eqb a b).1 same.0 in absurd (cc (yes, is))

told : (a b : ℕ) (c : Bool) → Passes a b c → cond (a == b) c (ltb a b) ≡ true
told a b c h = told_by a b c (a == b) refl h

not_below : (a b : ℕ) → ltb a b ≡ false → b ≤ a
not_below a b h = grind (arith, nat_tests)

above_by : (a b : ℕ) (c e : Bool) → (a == b) ≡ e → cond e c (ltb a b) ≡ false → (b < a) ⊎ ((b ≡ a) × (c ≡ false))
above_by a b c true is h = inr (sym ((Decides-eqb a b).0 is), h)
above_by a b c false is h = ⊎_elim
    (λ (lt : b < a). inl lt)
    (λ (le : a ≤ b).
    let most = not_below a b h in
    let same : a ≡ b = omega (arith, le, most) in
    let yes = (Decides-eqb a b).1 same in
    absurd (cc (yes, is)))
    (cases_lt b a)

-- ---- before what is looked for, or not behind it

less_back : (o : Option ℕ) (m n : ℕ) → m ≤ n → is_less n o ≡ true → is_less m o ≡ true
less_back None m n le h = absurd cc
less_back (Some o) m n le h = let lt = below n o h in less_is m o (omega (arith, le, lt))

at_most : (m n : ℕ) → leb m n ≡ true → m ≤ n
at_most m n h = grind (arith, nat_tests)

most_is : (m n : ℕ) → m ≤ n → leb m n ≡ true
most_is m n h = grind (arith, nat_tests)

above : (m n : ℕ) → leb m n ≡ false → n < m
above m n h = grind (arith, nat_tests)

most_back : (o : Option ℕ) (m n : ℕ) → m ≤ n → is_most n o ≡ true → is_most m o ≡ true
most_back None m n le h = refl
most_back (Some o) m n le h = let most = at_most n o h in most_is m o (omega (arith, le, most))

passes_back : (f a b : ℕ) (c d : Bool) → (a < b) ⊎ ((a ≡ b) × (d ≡ true → c ≡ true)) → Passes b f d → Passes a f c
passes_back f a b c d (inl lt) (inl less) = inl (omega (arith, lt, less))
passes_back f a b c d (inl lt) (inr same) = inl (let is = same.0 in omega (arith, lt, is))
passes_back f a b c d (inr back) (inl less) = inl (let is = back.0 in omega (arith, is, less))
passes_back f a b c d (inr back) (inr same) = inr (back.0 ∙ same.0, back.1 same.1)

before_back : (f : Fronts) (m n : Naming) → IsUpTo m n → stands_before f n ≡ true → stands_before f m ≡ true
before_back f m n up h =
    told m.front f.front (is_less m.other f.other)
    (passes_back f.front m.front n.front (is_less m.other f.other) (is_less n.other f.other)
    (⊎_elim (λ (lt : m.front < n.front). inl lt) (λ (same : (m.front ≡ n.front) × (m.other ≤ n.other)). inr (same.0, λ k. less_back f.other m.other n.other same.1 k)) up)
    (said n.front f.front (is_less n.other f.other) h))

up_to_back : (f : Fronts) (m n : Naming) → IsUpTo m n → stands_up_to f n ≡ true → stands_up_to f m ≡ true
up_to_back f m n up h =
    told m.front f.front (is_most m.other f.other)
    (passes_back f.front m.front n.front (is_most m.other f.other) (is_most n.other f.other)
    (⊎_elim (λ (lt : m.front < n.front). inl lt) (λ (same : (m.front ≡ n.front) × (m.other ≤ n.other)). inr (same.0, λ k. most_back f.other m.other n.other same.1 k)) up)
    (said n.front f.front (is_most n.other f.other) h))

pub before_parted : (namings : List Naming) → StandByPairs namings → (f : Fronts) → IsPartitionedBy (λ m. stands_before f m) namings
before_parted namings stand f i j d le inside h = before_back f (get_or namings i d) (get_or namings j d) (stand i j d le inside) h

pub up_to_parted : (namings : List Naming) → StandByPairs namings → (f : Fronts) → IsPartitionedBy (λ m. stands_up_to f m) namings
up_to_parted namings stand f i j d le inside h = up_to_back f (get_or namings i d) (get_or namings j d) (stand i j d le inside) h

-- what is looked for stands neither before itself nor behind itself
not_less : (o : Option ℕ) (n : ℕ) → IsOther o n → is_less n o ≡ true → ⊥
not_less None n is h = absurd cc
not_less (Some o) n is h = let lt = below n o h in omega (arith, is, lt)

is_within : (o : Option ℕ) (n : ℕ) → IsOther o n → is_most n o ≡ true
is_within None n is = refl
is_within (Some o) n is = most_is n o (omega (arith, is))

not_before : (f : Fronts) (m : Naming) → IsOf f m → stands_before f m ≡ true → ⊥
not_before f m is h = ⊎_elim
    (λ (lt : m.front < f.front). let same = is.0 in omega (arith, same, lt))
    (λ (same : (m.front ≡ f.front) × (is_less m.other f.other ≡ true)). not_less f.other m.other is.1 same.1)
    (said m.front f.front (is_less m.other f.other) h)

is_up_to : (f : Fronts) (m : Naming) → IsOf f m → stands_up_to f m ≡ true
is_up_to f m is = told m.front f.front (is_most m.other f.other) (inr (is.0, is_within f.other m.other is.1))

-- Those that are looked for stand from the one edge to the other.
pub around : (namings : List Naming) (f : Fronts) (start end : ℕ)
    → IsPartitionPoint (λ m. stands_before f m ≡ true) (λ m. stands_before f m ≡ false) namings start
    → IsPartitionPoint (λ m. stands_up_to f m ≡ true) (λ m. stands_up_to f m ≡ false) namings end
    → (k : ℕ) (d : Naming) → k < length namings → IsOf f (get_or namings k d) → (start ≤ k) × (k < end)
around namings f start end from to k d inside is = (
  ⊎_elim
      (λ (lt : k < start). absurd (not_before f (get_or namings k d) is (from.0 k d (omega arith) lt)))
      (λ (le : start ≤ k). le)
      (cases_lt k start),
  ⊎_elim
      (λ (lt : k < end). lt)
      (λ (le : end ≤ k).
      let yes = is_up_to f (get_or namings k d) is in
      let not_so = to.1 k d le inside in
      absurd (cc (yes, not_so)))
      (cases_lt k end),
)

-- ---- one more, and one less

moved : (a b x y : Naming) → a ≡ x → b ≡ y → IsUpTo x y → IsUpTo a b
moved a b x y is_a is_b up = subst (λ c. IsUpTo c b) (sym is_a) (subst (λ c. IsUpTo x c) (sym is_b) up)

module _ (namings : List Naming) (n : ℕ) (m : Naming) (stand : StandByPairs namings) (inside : n ≤ length namings)
    (low : (k : ℕ) (d : Naming) → k < n → IsUpTo (get_or namings k d) m) (high : (k : ℕ) (d : Naming) → n ≤ k → k < length namings → IsUpTo m (get_or namings k d)) where
  abbrev Placed : ℕ → Naming → Type 0
  Placed k d = ((k < n) × (get_or (insert namings n m) k d ≡ get_or namings k d)) ⊎ (((k ≡ n) × (get_or (insert namings n m) k d ≡ m)) ⊎ ((n < k) × (get_or (insert namings n m) k d ≡ get_or namings (k - 1) d)))

  placed : (k : ℕ) (d : Naming) → Placed k d
  placed k d = ⊎_elim
      (λ (lt : k < n). inl (lt, get_or-insert_below namings n m d k lt inside))
      (λ (le : n ≤ k). ⊎_elim
      (λ (more : n < k).
      let back : (k - 1) + 1 ≡ k = omega (arith, more) in
      inr (inr (more, subst (λ l. get_or (insert namings n m) l d ≡ get_or namings (k - 1) d) back (get_or-insert_above namings n m d (k - 1) (omega (arith, more)) inside))))
      (λ (most : k ≤ n).
      let same : k ≡ n = omega (arith, le, most) in
      inr (inl (same, subst (λ l. get_or (insert namings n m) l d ≡ m) (sym same) (get_or-insert_at namings n m d inside))))
      (cases_lt n k))
      (cases_lt k n)

  pub inserted_stand : StandByPairs (insert namings n m)
  inserted_stand a b d le lt = by_both (placed a d) (placed b d)
    where
      long : length (insert namings n m) ≡ length namings + 1
      long = length-insert namings n m inside

      by_both : Placed a d → Placed b d → IsUpTo (get_or (insert namings n m) a d) (get_or (insert namings n m) b d)
      by_both (inl (less, is_a)) (inl (few, is_b)) = moved _ _ _ _ is_a is_b (stand a b d le (omega (arith, few, inside)))
      by_both (inl (less, is_a)) (inr (inl (here, is_b))) = moved _ _ _ _ is_a is_b (low a d less)
      by_both (inl (less, is_a)) (inr (inr (more, is_b))) = moved _ _ _ _ is_a is_b (stand a (b - 1) d (omega (arith, less, more)) (let l = long in omega (arith, l, lt, more)))
      by_both (inr (inl (here, is_a))) (inl (few, is_b)) = absurd (omega (arith, here, few, le))
      by_both (inr (inl (here, is_a))) (inr (inl (there, is_b))) = moved _ _ _ _ is_a is_b (inr (refl, omega arith))
      by_both (inr (inl (here, is_a))) (inr (inr (more, is_b))) = moved _ _ _ _ is_a is_b (high (b - 1) d (omega (arith, more)) (let l = long in omega (arith, l, lt, more)))
      by_both (inr (inr (far, is_a))) (inl (few, is_b)) = absurd (omega (arith, far, few, le))
      by_both (inr (inr (far, is_a))) (inr (inl (there, is_b))) = absurd (omega (arith, far, there, le))
      by_both (inr (inr (far, is_a))) (inr (inr (more, is_b))) = moved _ _ _ _ is_a is_b (stand (a - 1) (b - 1) d (omega (arith, le)) (let l = long in omega (arith, l, lt, more)))

pub put_stands : (namings : List Naming) (n : ℕ) (m : Naming) → StandByPairs namings → n ≤ length namings
    → IsPartitionPoint (λ k. stands_up_to (record { front = m.front; other = Some m.other }) k ≡ true) (λ k. stands_up_to (record { front = m.front; other = Some m.other }) k ≡ false) namings n
    → StandByPairs (insert namings n m)
put_stands namings n m stand inside parts = inserted_stand namings n m stand inside
    (λ k d lt. ⊎_elim
    (λ (less : (get_or namings k d).front < m.front). inl less)
    (λ (same : ((get_or namings k d).front ≡ m.front) × (leb (get_or namings k d).other m.other ≡ true)). inr (same.0, at_most (get_or namings k d).other m.other same.1))
    (said (get_or namings k d).front m.front (leb (get_or namings k d).other m.other) (parts.0 k d (omega arith) lt)))
    (λ k d le here. ⊎_elim
    (λ (more : m.front < (get_or namings k d).front). inl more)
    (λ (same : (m.front ≡ (get_or namings k d).front) × (leb (get_or namings k d).other m.other ≡ false)). inr (same.0, (let lt = above (get_or namings k d).other m.other same.1 in omega (arith, lt))))
    (above_by (get_or namings k d).front m.front (leb (get_or namings k d).other m.other) ((get_or namings k d).front == m.front) refl (parts.1 k d le here)))

pub removed_stand : (namings : List Naming) (i : ℕ) → i < length namings → StandByPairs namings → StandByPairs (remove namings i)
removed_stand namings i inside stand a b d le lt =
    let (m, at_m, by_m) = stands namings i inside a d in
    let (n, at_n, by_n) = stands namings i inside b d in
    let shorter = removed_length namings i inside in
    moved _ _ _ _ at_m at_n (stand m n d (was_ordered i (length namings) a b m n le by_m by_n) (was_inside i (length namings) b n by_n (omega (arith, lt, shorter))))

-- ---- one is looked up

both_equal : (a b : Ordering) → ordering_then a b ≡ Equal → b ≡ Equal
both_equal Less b h = absurd cc
both_equal Equal b h = h
both_equal Greater b h = absurd cc

pub same_item : (m k : Naming) → ordering_then (nat_cmp m.front k.front) (ordering_then (nat_cmp m.other k.other) (nat_cmp m.item k.item)) ≡ Equal → m.item ≡ k.item
same_item m k h = ranked m.item k.item Equal (sym (both_equal (nat_cmp m.other k.other) (nat_cmp m.item k.item) (both_equal (nat_cmp m.front k.front) _ h)))
