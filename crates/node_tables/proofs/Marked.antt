-- Marks by the fronts of their hashes.
use Rattle.std.proofs.Common.{◌≡◌, ℕ, ◌+◌, ◌<◌, ◌≤◌, true, false, leb, ltb, List, ◌∷◌, length, get_or, insert, refl, ap, ◌⊎◌, inl, inr, ⊎_elim, arith}
use Rattle.std.specs.List.{Contains, remove}
use Rattle.std.specs.List.Sorted.{IsPartitionPoint, IsPartitionedBy}
use Rattle.std.proofs.lemmas.Bool.{cases_lt}
use Rattle.std.proofs.lemmas.Bool.Decides.{nat_tests}
use Rattle.std.proofs.lemmas.List.{get_or_default}
use Rattle.std.proofs.lemmas.List.Edits.{get_or-remove_above, get_or-remove_below, length-remove}
use Rattle.std.proofs.lemmas.List.Sorted.{Contains-permutation, IsNonDecreasingBy-insert, IsPartitionedBy-leb, IsPartitionedBy-ltb, IsPermutation-remove, IsPermutation-sym}
use Rattle.authenticators.proofs.AscendingLists.{cons_has, in_cons}
use Rattle.node_tables.specs.declared.mark.Mark.{Mark}
use Rattle.node_tables.specs.Hashed.{DoNotFall}
use Rattle.node_tables.specs.within.Marking.{is_under, is_within}

pub under_parted : (marks : List Mark) → DoNotFall marks → (front : ℕ) → IsPartitionedBy (λ m. is_under front m) marks
under_parted marks rise front = IsPartitionedBy-ltb (λ (m : Mark). m.front) marks front rise

pub within_parted : (marks : List Mark) → DoNotFall marks → (front : ℕ) → IsPartitionedBy (λ m. is_within front m) marks
within_parted marks rise front = IsPartitionedBy-leb (λ (m : Mark). m.front) marks front rise

above : (m n : ℕ) → leb m n ≡ false → n < m
above m n h = grind (arith, nat_tests)

at_most : (m n : ℕ) → leb m n ≡ true → m ≤ n
at_most m n h = grind (arith, nat_tests)

below : (m n : ℕ) → ltb m n ≡ true → m < n
below m n h = grind (arith, nat_tests)

-- Those of a front stand from the one edge to the other.
pub around : (marks : List Mark) (front start end : ℕ)
    → IsPartitionPoint (λ m. is_under front m ≡ true) (λ m. is_under front m ≡ false) marks start
    → IsPartitionPoint (λ m. is_within front m ≡ true) (λ m. is_within front m ≡ false) marks end
    → (k : ℕ) (d : Mark) → k < length marks → (get_or marks k d).front ≡ front → (start ≤ k) × (k < end)
around marks front start end from to k d inside is = (
  ⊎_elim
      (λ (lt : k < start). let less = below (get_or marks k d).front front (from.0 k d (omega arith) lt) in absurd (omega (arith, less, is)))
      (λ (le : start ≤ k). le)
      (cases_lt k start),
  ⊎_elim
      (λ (lt : k < end). lt)
      (λ (le : end ≤ k). let more = above (get_or marks k d).front front (to.1 k d le inside) in absurd (omega (arith, more, is)))
      (cases_lt k end),
)

pub put_rises : (marks : List Mark) (n : ℕ) (m : Mark) → DoNotFall marks → n ≤ length marks
    → IsPartitionPoint (λ k. is_within m.front k ≡ true) (λ k. is_within m.front k ≡ false) marks n → DoNotFall (insert marks n m)
put_rises marks n m rise inside parts = IsNonDecreasingBy-insert (λ (k : Mark). k.front) marks n m rise inside
    (λ k d lt. at_most (get_or marks k d).front m.front (parts.0 k d (omega arith) lt))
    (λ k d le here. let more = above (get_or marks k d).front m.front (parts.1 k d le here) in omega (arith, more))

-- ---- one goes

module _ {X : Type 0} (marks : List X) (i : ℕ) (inside : i < length marks) where
  pub stands : (k : ℕ) (d : X) → (n : ℕ) × (get_or (remove marks i) k d ≡ get_or marks n d) × (((n ≡ k) × (k < i)) ⊎ ((n ≡ k + 1) × (i ≤ k)))
  stands k d = ⊎_elim
      (λ (lt : k < i). (k, get_or-remove_below marks i d k lt inside, inl (refl, lt)))
      (λ (le : i ≤ k). (k + 1, get_or-remove_above marks i d k le inside, inr (refl, le)))
      (cases_lt k i)

  -- what was before it stands there, and what was behind it one place earlier
  pub removed_before : (k : ℕ) (d : X) → k < i → get_or (remove marks i) k d ≡ get_or marks k d
  removed_before k d lt = get_or-remove_below marks i d k lt inside

  pub removed_behind : (k : ℕ) (d : X) → i ≤ k → get_or (remove marks i) k d ≡ get_or marks (k + 1) d
  removed_behind k d le = get_or-remove_above marks i d k le inside

  pub removed_length : length (remove marks i) + 1 ≡ length marks
  removed_length = length-remove marks i inside

  pub removed_fewer : (m : X) → Contains (remove marks i) m → Contains marks m
  removed_fewer m has =
      let d = get_or marks i m in
      Contains-permutation (d ∷ remove marks i) marks m (IsPermutation-sym _ _ (IsPermutation-remove marks i d inside (get_or_default marks i m d inside))) (cons_has d (remove marks i) m (inl has))

  pub removed_others : (m d : X) → Contains marks m → Contains (remove marks i) m ⊎ (m ≡ get_or marks i d)
  removed_others m d has =
      let e = get_or marks i d in
      in_cons e (remove marks i) m (Contains-permutation marks (e ∷ remove marks i) m (IsPermutation-remove marks i e inside (get_or_default marks i d e inside)) has)

-- An order of all places, by two of those that were.
module _ (i n : ℕ) where
  abbrev pub Was : ℕ → ℕ → Type 0
  Was m a = ((m ≡ a) × (a < i)) ⊎ ((m ≡ a + 1) × (i ≤ a))

  pub was_ordered : (a b m k : ℕ) → a ≤ b → Was m a → Was k b → m ≤ k
  was_ordered a b m k le (inl (p, q)) (inl (r, s)) = omega (arith, p, r, le)
  was_ordered a b m k le (inl (p, q)) (inr (r, s)) = omega (arith, p, r, le)
  was_ordered a b m k le (inr (p, q)) (inl (r, s)) = absurd (omega (arith, q, s, le))
  was_ordered a b m k le (inr (p, q)) (inr (r, s)) = omega (arith, p, r, le)

  pub was_inside : (b k : ℕ) → Was k b → b + 1 < n → k < n
  was_inside b k (inl (r, s)) more = omega (arith, r, more)
  was_inside b k (inr (r, s)) more = omega (arith, r, more)

pub removed_rises : (marks : List Mark) (i : ℕ) → i < length marks → DoNotFall marks → DoNotFall (remove marks i)
removed_rises marks i inside rise a b d le lt =
    let (m, at_m, by_m) = stands marks i inside a d in
    let (n, at_n, by_n) = stands marks i inside b d in
    let shorter = removed_length marks i inside in
    let up : m ≤ n = was_ordered i (length marks) a b m n le by_m by_n in
    let most : n < length marks = was_inside i (length marks) b n by_n (omega (arith, lt, shorter)) in
    let one = ap (λ (k : Mark). k.front) at_m in
    let other = ap (λ (k : Mark). k.front) at_n in
    let rises = rise m n d up most in
    omega (arith, one, other, rises)
