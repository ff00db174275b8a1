-- Numbers and hashes of entries in order, and what a binary search finds among them.
use Rattle.std.proofs.Common.{◌≡◌, ℕ, Bool, true, false, List, [], ◌∷◌, length, get_or, map, Result, Ok, Err, refl, sym, ap, subst, ◌∙◌}
use Rattle.std.specs.Prelude.{◌↔◌, ◌&&◌, ◌||◌, ◌==◌, IfOk, is_ok}
use Rattle.std.specs.Cmp.{IsEquivalence, IsTotalOrder, Equal-is, eq_by_cmp_equiv}
use Rattle.std.specs.List.{Contains, HoldsAt, dedup, list_any}
use Rattle.std.specs.List.Sorted.{IsBinarySearchResult, IsPermutation, IsSearchInRange, IsStrictlySortedBy}
use Rattle.std.specs.Ordering.{eq_by_cmp, nat_cmp, ordering_then}
use Rattle.std.specs.Str.{bytes_eq}
use Rattle.std.specs.declared.cmp.Ordering.TheVariants.{Less, Equal, Greater}
use Rattle.std.specs.declared.cmp.Ordering.{Ordering}
use Rattle.std.proofs.lemmas.Bool.{eq-eqb, eqb-true, false_from_ne_true}
use Rattle.std.proofs.lemmas.Cmp.{nat_cmp_total, nat_list_cmp_total, on_total, ranked, then_total}
use Rattle.std.proofs.lemmas.List.Folds.{Any-from_list_any, list_any-from_Any}
use Rattle.std.proofs.lemmas.List.Kept.{Contains-dedup, Contains-from_dedup}
use Rattle.std.proofs.lemmas.List.Sorted.{Contains-permutation, IsPermutation-sym}
use Rattle.std.proofs.lemmas.Map.Lookups.{exact_bytes}
use Rattle.std.proofs.lemmas.Slice.Eq.{bytes_eq-Decides}
use Rattle.authenticators.proofs.AscendingLists.{absent, searchable}
use Rattle.kept_entries.specs.Shared.{SharedEntry}
use Rattle.kept_items.specs.declared.pair.Pair.{Pair}
use Rattle.kept_items.specs.within.Pairing.{ArePairs, by_pair, is_pair, pair_of}

-- ---- the order

pub by_pair_total : IsTotalOrder by_pair
by_pair_total = then_total (on_total (λ (p : Pair). p.seq) nat_cmp_total) (on_total (λ (p : Pair). p.hash) nat_list_cmp_total)

both_equal : (a b : Ordering) → ordering_then a b ≡ Equal → (a ≡ Equal) × (b ≡ Equal)
both_equal Less b h = absurd cc
both_equal Equal b h = (refl, h)
both_equal Greater b h = absurd cc

-- Pairs that compare as equal are the same.
pub equal_same : (p q : Pair) → by_pair p q ≡ Equal → p ≡ q
equal_same p q h =
    let both = both_equal _ _ h in
    let seq : p.seq ≡ q.seq = ranked p.seq q.seq Equal (sym both.0) in
    let hash : p.hash ≡ q.hash = exact_bytes p.hash q.hash both.1 in
    ap (λ n. record { seq = n; hash = p.hash }) seq ∙ ap (λ l. record { seq = q.seq; hash = l }) hash

module _ (E : Pair → Pair → Bool) (ties : (p q : Pair) → E p q ≡ eq_by_cmp by_pair p q) where
  same : (p q : Pair) → E p q ≡ true → p ≡ q
  same p q e = equal_same p q ((Equal-is (by_pair p q)).0 (sym (ties p q) ∙ e))

  equivalence : IsEquivalence E
  equivalence = subst IsEquivalence (λ i p q. sym (ties p q) i) (eq_by_cmp_equiv by_pair_total)

  -- The pairs in another order, each once.
  pub members_once : (pairs moved : List Pair) → IsPermutation pairs moved → (p : Pair) → Contains (dedup E moved) p ↔ Contains pairs p
  members_once pairs moved is p = (
    λ has. Contains-permutation moved pairs p (IsPermutation-sym pairs moved is) (Contains-from_dedup E moved p has),
    λ has. Contains-dedup equivalence same moved p (Contains-permutation pairs moved p is has),
  )

-- ---- what is found

both : (a b : Bool) → (a && b) ≡ true → (a ≡ true) × (b ≡ true)
both true b h = (refl, h)
both false b h = absurd cc

-- A pair has a number and a hash exactly where it is their pair.
is_one : (seq : ℕ) (hash : List ℕ) (p : Pair) → is_pair seq hash p ≡ true → p ≡ record { seq = seq; hash = hash }
is_one seq hash p h =
    let parts = both (p.seq == seq) (bytes_eq p.hash hash) h in
    ap (λ n. record { seq = n; hash = p.hash }) (eqb-true p.seq seq parts.0) ∙ ap (λ l. record { seq = seq; hash = l }) ((bytes_eq-Decides p.hash hash).0 parts.1)

one_is : (seq : ℕ) (hash : List ℕ) → is_pair seq hash (record { seq = seq; hash = hash }) ≡ true
one_is seq hash = ap (λ (b : Bool). b && bytes_eq hash hash) (eq-eqb seq seq refl) ∙ (bytes_eq-Decides hash hash).1 refl

-- Some pair of a list has them exactly where the list has their pair.
pub among_them : (pairs : List Pair) (seq : ℕ) (hash : List ℕ) → (list_any (is_pair seq hash) pairs ≡ true) ↔ Contains pairs (record { seq = seq; hash = hash })
among_them pairs seq hash = (
  λ e. let a = Any-from_list_any (is_pair seq hash) pairs e in subst (λ (p : Pair). Contains pairs p) (is_one seq hash a.1 a.4) (a.0, a.2, a.3),
  λ (k, lt, is). list_any-from_Any (is_pair seq hash) pairs (k, record { seq = seq; hash = hash }, lt, is, one_is seq hash),
)

pub searched : (pairs : List Pair) (seq : ℕ) (hash : List ℕ) (r : Result ℕ ℕ) → IsStrictlySortedBy by_pair pairs → IsSearchInRange r (length pairs) → IfOk r (HoldsAt (λ p. by_pair p (record { seq = seq; hash = hash }) ≡ Equal) pairs)
    → IsBinarySearchResult (λ p. by_pair p (record { seq = seq; hash = hash })) pairs r → is_ok r ≡ list_any (is_pair seq hash) pairs
searched pairs seq hash (Ok i) up range holds at =
    let e : Pair = record { seq = seq; hash = hash } in
    sym ((among_them pairs seq hash).1 (i, range, equal_same (get_or pairs i e) e (holds e)))
searched pairs seq hash (Err i) up range holds at =
    let e : Pair = record { seq = seq; hash = hash } in
    let p = at (searchable by_pair by_pair_total pairs e up) in
    sym (false_from_ne_true (list_any (is_pair seq hash) pairs) (λ has. absent by_pair by_pair_total pairs e i p.0 p.1 ((among_them pairs seq hash).0 has)))

-- ---- pairs of entries

alike : (a b : Bool) → (a ≡ true → b ≡ true) → (b ≡ true → a ≡ true) → a ≡ b
alike true b to from = sym (to refl)
alike false true to from = from refl
alike false false to from = refl

-- A test of the pairs of entries is one of the entries.
mapped : (p : Pair → Bool) (shared : List SharedEntry) → list_any p (map pair_of shared) ≡ list_any (λ (x : SharedEntry). p (pair_of x)) shared
mapped p [] = refl
mapped p (x ∷ xs) = ap (λ (b : Bool). p (pair_of x) || b) (mapped p xs)

-- Some entry has the number and the hash exactly where their pair is among the pairs.
pub entries_by_pairs : (shared : List SharedEntry) (pairs : List Pair) (seq : ℕ) (hash : List ℕ) → ArePairs shared pairs
    → list_any (is_pair seq hash) pairs ≡ list_any (λ (x : SharedEntry). (x.entry.seq == seq) && bytes_eq x.hash hash) shared
entries_by_pairs shared pairs seq hash are =
    let e : Pair = record { seq = seq; hash = hash } in
    let listed = map pair_of shared in
    alike (list_any (is_pair seq hash) pairs) (list_any (is_pair seq hash) listed)
    (λ h. (among_them listed seq hash).1 ((are.members e).0 ((among_them pairs seq hash).0 h)))
    (λ h. (among_them pairs seq hash).1 ((are.members e).1 ((among_them listed seq hash).0 h)))
    ∙ mapped (is_pair seq hash) shared
