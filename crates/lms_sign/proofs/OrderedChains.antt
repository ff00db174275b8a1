-- The order in which chains are taken.
use Rattle.std.proofs.Common.{◌≡◌, ℕ, ◌<◌, List, length, slice_index_or, All, Contains, IsPermutation, arith, sym, subst}
use Rattle.std.proofs.lemmas.List.Sorted.{All-permutation, Contains-permutation}

-- the numbered chains in any order
module _ (left : ℕ → ℕ) (size : ℕ) (xs ys : List (ℕ × ℕ)) (len : length xs ≡ size)
    (is : (k : ℕ) (d : ℕ × ℕ) → k < size → slice_index_or xs k d ≡ (left k, k)) (perm : IsPermutation xs ys) where
  -- each entry is a chain
  pub entries : All (λ x. x.1 < size) ys
  entries = All-permutation (λ x. x.1 < size) xs ys perm (λ i e h. subst (λ (x : ℕ × ℕ). x.1 < size) (sym (is i e (omega arith))) (omega arith))

  -- each chain has an entry
  pub found : (i : ℕ) → i < size → Contains ys (left i, i)
  found i lt = Contains-permutation xs ys (left i, i) perm (i, omega arith, is i _ lt)
