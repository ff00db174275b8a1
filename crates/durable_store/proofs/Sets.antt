-- Sets that grow by groups of items.
use Rattle.std.proofs.Common.{◌≡◌, ◌⊎◌, inl, inr, ⊎_elim, List, ◌∷◌, sym, subst}
use Rattle.std.specs.List.{Contains}
use Rattle.item_forms.specs.Pieces.{Piece}
use Rattle.evidence_set.specs.ItemSets.{Items, Has, IsWithin, insert, insert_all}
use Rattle.evidence_set.proofs.Joins.{as_expected, least_upper_bounds}
use Rattle.evidence_set.proofs.SetLists.{sets_are_lists}
use Rattle.evidence_set.proofs.Members.{first_member, later_member, member_cases}

-- sets that are within each other are one
pub one : (A B : Items) → IsWithin A B → IsWithin B A → A ≡ B
one A B = least_upper_bounds.one A B

-- what is in a set with more items
pub in_all : (E : Items) (xs : List Piece) (x : Piece) → Has (insert_all E xs) x → Has E x ⊎ Contains xs x
in_all E xs x = (sets_are_lists.together E xs x).0

pub put_all : (E : Items) (xs : List Piece) (x : Piece) → Has E x ⊎ Contains xs x → Has (insert_all E xs) x
put_all E xs x = (sets_are_lists.together E xs x).1

-- a set is within that with more items
pub grows : (E : Items) (xs : List Piece) → IsWithin E (insert_all E xs)
grows E xs x has = put_all E xs x (inl has)

-- more items in a greater set are within it
pub keeps_within : (A B : Items) (xs : List Piece) → IsWithin A B → IsWithin (insert_all A xs) (insert_all B xs)
keeps_within A B xs within x has = put_all B xs x (⊎_elim (λ h. inl (within x h)) (λ c. inr c) (in_all A xs x has))

-- an item may be put in before the others or behind them
pub moved : (E : Items) (x : Piece) (xs : List Piece) → insert_all (insert E x) xs ≡ insert_all E (x ∷ xs)
moved E x xs = one _ _ there back
  where
    place : (y : Piece) → (y ≡ x) ⊎ Has E y → Has (insert_all E (x ∷ xs)) y
    place y (inl same) = put_all E (x ∷ xs) y (inr (subst (λ z. Contains (x ∷ xs) z) (sym same) (first_member x xs)))
    place y (inr has) = put_all E (x ∷ xs) y (inl has)

    there : IsWithin (insert_all (insert E x) xs) (insert_all E (x ∷ xs))
    there y has = ⊎_elim (λ h. place y ((as_expected.insert E x y).0 h)) (λ c. put_all E (x ∷ xs) y (inr (later_member x xs y c))) (in_all (insert E x) xs y has)

    among : (y : Piece) → (x ≡ y) ⊎ Contains xs y → Has (insert_all (insert E x) xs) y
    among y (inl same) = put_all (insert E x) xs y (inl ((as_expected.insert E x y).1 (inl (sym same))))
    among y (inr c) = put_all (insert E x) xs y (inr c)

    back : IsWithin (insert_all E (x ∷ xs)) (insert_all (insert E x) xs)
    back y has = ⊎_elim (λ h. put_all (insert E x) xs y (inl ((as_expected.insert E x y).1 (inr h)))) (λ c. among y (member_cases x xs y c)) (in_all E (x ∷ xs) y has)
