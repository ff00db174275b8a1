-- A search whose answers are a test's finds the edge up to which the test holds.
use Rattle.std.proofs.Common.{◌≡◌, ℕ, ◌<◌, ◌≤◌, Bool, true, false, List, [], ◌∷◌, length, get_or, Result, Ok, Err, refl, arith}
use Rattle.std.specs.List.Sorted.{IsBinarySearchResult, IsNonDecreasingBy, IsPartitionPoint, IsPartitionedBy, IsSearchInRange}
use Rattle.std.specs.Ordering.{ordering_index}
use Rattle.std.specs.declared.cmp.Ordering.TheVariants.{Less, Equal, Greater}
use Rattle.node_tables.specs.within.Bringing.{edge_of, side}

side_rises : (b c : Bool) → (c ≡ true → b ≡ true) → ordering_index (side b) ≤ ordering_index (side c)
side_rises true true h = omega arith
side_rises true false h = omega arith
side_rises false true h = absurd (let e : false ≡ true = h refl in cc)
side_rises false false h = omega arith

before : (b : Bool) → side b ≡ Less → b ≡ true
before true h = refl
before false h = absurd cc

behind : (b : Bool) → side b ≡ Greater → b ≡ false
behind true h = absurd cc
behind false h = refl

never : (b : Bool) → side b ≡ Equal → ⊥
never true h = cc
never false h = cc

an_element : {X : Type 0} (xs : List X) (i : ℕ) → i < length xs → X
an_element [] i inside = absurd (omega (arith, inside))
an_element (x ∷ xs) i inside = x

pub edge_inside : (r : Result ℕ ℕ) (n : ℕ) → IsSearchInRange r n → edge_of r ≤ n
edge_inside (Ok i) n inside = omega (arith, inside)
edge_inside (Err i) n inside = inside

module _ {X : Type 0} (p : X → Bool) (xs : List X) (parted : IsPartitionedBy p xs) where
  rises : IsNonDecreasingBy (λ x. ordering_index (side (p x))) xs
  rises i j d le inside = side_rises (p (get_or xs i d)) (p (get_or xs j d)) (parted i j d le inside)

  pub edge_found : (r : Result ℕ ℕ) → IsSearchInRange r (length xs) → IsBinarySearchResult (λ x. side (p x)) xs r → IsPartitionPoint (λ x. p x ≡ true) (λ x. p x ≡ false) xs (edge_of r)
  edge_found (Ok i) inside equal = let x = an_element xs i inside in absurd (never (p (get_or xs i x)) (equal x))
  edge_found (Err i) inside place =
      let parts = place rises in
      (λ k d lo hi. before (p (get_or xs k d)) (parts.0 k d lo hi), λ k d lo hi. behind (p (get_or xs k d)) (parts.1 k d lo hi))
