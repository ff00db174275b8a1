-- Lists that grow by what one element gives.
use Rattle.std.proofs.Common.{◌≡◌, ◌∙◌, ◌+◌, ◌<◌, ℕ, Bool, List, [], ◌∷◌, ◌++◌, length, get_or, map, take, Option, sym, ap, append_assoc}
use Rattle.std.specs.List.{filter, filter_map}
use Rattle.std.proofs.lemmas.List.{map-append, take_more}
use Rattle.std.proofs.lemmas.List.Elements.{filter-append, filter_map-append}
use Rattle.item_forms.specs.Pieces.{Piece}
use Rattle.shards.specs.within.Deals.{Deal}

next : {X : Type 0} (xs : List X) (i : ℕ) (x : X) → i < length xs → x ≡ get_or xs i x → take (i + 1) xs ≡ take i xs ++ x ∷ []
next {X} xs i x below is = take_more xs i x below ∙ ap (λ (y : X). take i xs ++ y ∷ []) (sym is)

-- ---- numbers

module _ {X Y : Type 0} (h : X → Option Y) (f : Y → ℕ) where
  abbrev given : List X → List ℕ
  given xs = map f (filter_map h xs)

  both : (xs ys : List X) → given xs ++ given ys ≡ given (xs ++ ys)
  both xs ys = sym (map-append f (filter_map h xs) (filter_map h ys)) ∙ ap (map f) (sym (filter_map-append h xs ys))

  pub one_more : (xs : List X) (i : ℕ) (x : X) (first before after : List ℕ) → i < length xs → x ≡ get_or xs i x → before ≡ first ++ map f (filter_map h (take i xs)) → after ≡ before ++ map f (filter_map h (x ∷ []))
      → after ≡ first ++ map f (filter_map h (take (i + 1) xs))
  one_more xs i x first before after below is so_far more =
      more
      ∙ ap (λ (ys : List ℕ). ys ++ given (x ∷ [])) so_far
      ∙ append_assoc first (given (take i xs)) (given (x ∷ []))
      ∙ ap (λ (ys : List ℕ). first ++ ys) (both (take i xs) (x ∷ []) ∙ ap given (sym (next xs i x below is)))

-- ---- items that are kept

module _ {X : Type 0} (view : X → Deal) (keep : Deal → Bool) where
  abbrev kept : List X → List Piece
  kept xs = map (λ (d : Deal). d.0) (filter keep (map view xs))

  kept_both : (xs ys : List X) → kept xs ++ kept ys ≡ kept (xs ++ ys)
  kept_both xs ys =
      sym (map-append (λ (d : Deal). d.0) (filter keep (map view xs)) (filter keep (map view ys)))
      ∙ ap (map (λ (d : Deal). d.0)) (sym (filter-append keep (map view xs) (map view ys)))
      ∙ ap (λ (ds : List Deal). map (λ (d : Deal). d.0) (filter keep ds)) (sym (map-append view xs ys))

  pub one_more_kept : (xs : List X) (i : ℕ) (x : X) (before after : List Piece) → i < length xs → x ≡ get_or xs i x
      → before ≡ map (λ (d : Deal). d.0) (filter keep (map view (take i xs))) → after ≡ before ++ map (λ (d : Deal). d.0) (filter keep (view x ∷ []))
      → after ≡ map (λ (d : Deal). d.0) (filter keep (map view (take (i + 1) xs)))
  one_more_kept xs i x before after below is so_far more =
      more ∙ ap (λ (ys : List Piece). ys ++ kept (x ∷ [])) so_far ∙ kept_both (take i xs) (x ∷ []) ∙ ap kept (sym (next xs i x below is))
