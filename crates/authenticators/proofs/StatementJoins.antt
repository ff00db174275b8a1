-- Statements that are joined with those that are held.
use Rattle.std.proofs.Common.{◌≡◌, ℕ, ◌+◌, ◌-◌, ◌<◌, ◌≤◌, Bool, true, false, cond, not, List, [], ◌∷◌, ◌++◌, length, take, drop, get_or, reverse, insert, Result, Ok, Err, IfOk, IfErr, is_ok, ◌⊎◌, inl, inr, ⊎_elim, refl, sym, ap, subst, ◌∙◌, arith, length-append}
use Rattle.std.specs.Prelude.{◌↔◌}
use Rattle.std.specs.Cmp.{Equal-is, eq_by_cmp_equiv}
use Rattle.std.specs.List.{AllByRecursion, Contains, filter}
use Rattle.std.specs.List.Sorted.{IsBinarySearchResult, IsSearchInRange, IsStrictlySortedBy}
use Rattle.std.specs.Ordering.{ordering_reverse}
use Rattle.std.specs.declared.cmp.Ordering.TheVariants.{Less, Greater}
use Rattle.std.proofs.lemmas.Bool.{cases_lt}
use Rattle.std.proofs.lemmas.List.{drop-append-le, get_or_append_left, get_or-append_right, get_or-drop, length-drop, reverse-append, reverse-reverse, take-append-le}
use Rattle.std.proofs.lemmas.List.Elements.{Contains-append_cases, Contains-append_left, Contains-get_or, Contains-push_cases}
use Rattle.std.proofs.lemmas.List.Sorted.{Contains-permutation, IsPermutation-reverse, IsPermutation-sym}
use Rattle.std.proofs.lemmas.Map.Views.{Contains-from_any, list_any-from_Contains}
use Rattle.authenticators.specs.declared.authenticator.Authenticator.{Authenticator}
use Rattle.authenticators.specs.StatementSet.{by_fields, IsAscending, IsUnion}
use Rattle.authenticators.specs.within.Joins.{AreAbove, IsPlaceOf, IsPut, is_held, with_moved}
use Rattle.authenticators.proofs.AscendingLists.{absent, cons_has, in_cons, members-insert, searchable, sorted-insert}
use Rattle.authenticators.proofs.StatementSets.{by_fields_total, equal_same}
use Rattle.authenticators.proofs.StatementUnions.{IsUnionWithRest, union_more}

-- ---- what is held already

pub held_there : (held : List Authenticator) (x : Authenticator) → is_held held x ≡ true → Contains held x
held_there held x e = Contains-from_any (λ y z h. equal_same y z ((Equal-is (by_fields y z)).0 h)) x held e

pub there_held : (held : List Authenticator) (x : Authenticator) → Contains held x → is_held held x ≡ true
there_held held x has = list_any-from_Contains (eq_by_cmp_equiv by_fields_total) x held has

-- a statement with a place of its own is not held
pub not_held : (held : List Authenticator) (x : Authenticator) (place : ℕ) → IsPlaceOf x held place → is_held held x ≡ false
not_held held x place is = go (is_held held x) refl
  where
    go : (b : Bool) → is_held held x ≡ b → is_held held x ≡ false
    go true e = absurd (absent by_fields by_fields_total held x place is.below is.above (held_there held x e))
    go false e = e

-- what a binary search finds is the statement, and what it tells of another one is its place
pub there_from : (held : List Authenticator) (x : Authenticator) (r : Result ℕ ℕ) → IsSearchInRange r (length held) → IsBinarySearchResult (λ y. by_fields y x) held r → IfOk r (λ i. Contains held x)
there_from held x (Ok i) inside told = (i, inside, equal_same (get_or held i x) x (told x))
there_from held x (Err i) inside told = tt

pub place_from : (held : List Authenticator) (x : Authenticator) (r : Result ℕ ℕ) → IsAscending held → IsSearchInRange r (length held) → IsBinarySearchResult (λ y. by_fields y x) held r → IfErr r (λ i. IsPlaceOf x held i)
place_from held x (Ok i) up inside told = tt
place_from held x (Err i) up inside told = let parts = told (searchable by_fields by_fields_total held x up) in record { inside = inside; below = parts.0; above = parts.1 }

-- whether a statement is held is told by either
pub held_told : (held : List Authenticator) (x : Authenticator) (r : Result ℕ ℕ) (b : Bool) → b ≡ is_ok r → IfOk r (λ i. Contains held x) → IfErr r (λ i. IsPlaceOf x held i) → b ≡ is_held held x
held_told held x (Ok i) b is there place = is ∙ sym (there_held held x there)
held_told held x (Err i) b is there place = is ∙ sym (not_held held x i place)

-- ---- what a filter leaves

from_filter : (p : Authenticator → Bool) (xs : List Authenticator) (x : Authenticator) → Contains (filter p xs) x → Contains xs x
from_filter p [] x has = has
from_filter p (y ∷ ys) x has = go (p y) (λ later. from_filter p ys x later) has
  where
    go : (b : Bool) → (Contains (filter p ys) x → Contains ys x) → Contains (cond b (y ∷ filter p ys) (filter p ys)) x → Contains (y ∷ ys) x
    go true rec h = cons_has y ys x (⊎_elim (λ later. inl (rec later)) (λ is. inr is) (in_cons y (filter p ys) x h))
    go false rec h = cons_has y ys x (inl (rec h))

to_filter : (p : Authenticator → Bool) (xs : List Authenticator) (x : Authenticator) → Contains xs x → p x ≡ true → Contains (filter p xs) x
to_filter p [] x has holds = has
to_filter p (y ∷ ys) x has holds = go (p y) refl (λ later. to_filter p ys x later holds) (in_cons y ys x has)
  where
    go : (b : Bool) → p y ≡ b → (Contains ys x → Contains (filter p ys) x) → Contains ys x ⊎ (x ≡ y) → Contains (cond b (y ∷ filter p ys) (filter p ys)) x
    go true e rec (inl later) = cons_has y (filter p ys) x (inl (rec later))
    go true e rec (inr is) = cons_has y (filter p ys) x (inr is)
    go false e rec (inl later) = rec later
    go false e rec (inr is) = let h : p y ≡ true = ap p (sym is) ∙ holds in absurd (cc (e, h))

-- a union with what is not held, of what was given in another order, is one with what was given
pub union_new : (held given sorted kept all : List Authenticator) → ((x : Authenticator) → Contains sorted x ↔ Contains given x)
    → kept ≡ filter (λ (x : Authenticator). not (is_held held x)) sorted → IsUnion held kept all → IsUnion held given all
union_new held given sorted kept all same is union = λ x. (λ has. from x ((union x).0 has), λ h. to x h)
  where
    from : (x : Authenticator) → Contains held x ⊎ Contains kept x → Contains held x ⊎ Contains given x
    from x (inl has) = inl has
    from x (inr has) = inr ((same x).0 (from_filter (λ (y : Authenticator). not (is_held held y)) sorted x (subst (λ (l : List Authenticator). Contains l x) is has)))

    to : (x : Authenticator) → Contains held x ⊎ Contains given x → Contains all x
    to x (inl has) = (union x).1 (inl has)
    to x (inr has) = go (is_held held x) refl
      where
        go : (b : Bool) → is_held held x ≡ b → Contains all x
        go true e = (union x).1 (inl (held_there held x e))
        go false e = (union x).1 (inr (subst (λ (l : List Authenticator). Contains l x) (sym is) (to_filter (λ (y : Authenticator). not (is_held held y)) sorted x ((same x).1 has) (ap not e))))

-- ---- what is moved

-- what is held ascends
all_left : (P : Authenticator → Type 0) (xs ys : List Authenticator) → AllByRecursion P (xs ++ ys) → AllByRecursion P xs
all_left P [] ys h = tt
all_left P (x ∷ xs) ys h = (h.0, all_left P xs ys h.1)

pub held_ascends : (held behind : List Authenticator) → IsAscending (held ++ behind) → IsAscending held
unfolding IsStrictlySortedBy
held_ascends [] behind up = tt
held_ascends (x ∷ held) behind up = (all_left (λ (y : Authenticator). by_fields x y ≡ Less) held behind up.0, held_ascends held behind up.1)

-- what was moved, with the statement, stands where the statement is put
moved_put : (held moved : List Authenticator) (place : ℕ) (y : Authenticator) → place ≤ length held
    → with_moved (take place held) ((moved ++ reverse (drop place held)) ++ y ∷ []) ≡ insert (with_moved held moved) place y
moved_put held moved place y inside =
    let back : reverse (moved ++ reverse (drop place held)) ≡ drop place held ++ reverse moved =
    reverse-append moved (reverse (drop place held)) ∙ ap (λ (l : List Authenticator). l ++ reverse moved) (reverse-reverse (drop place held)) in
    let behind : reverse ((moved ++ reverse (drop place held)) ++ y ∷ []) ≡ y ∷ drop place (held ++ reverse moved) =
    reverse-append (moved ++ reverse (drop place held)) (y ∷ []) ∙ ap (λ (l : List Authenticator). y ∷ l) (back ∙ sym (drop-append-le place held (reverse moved) inside)) in
    ap (λ (l : List Authenticator). take place held ++ l) behind ∙ ap (λ (l : List Authenticator). l ++ y ∷ drop place (held ++ reverse moved)) (sym (take-append-le place held (reverse moved) inside))

-- what a list has in another order
in_reverse : (xs : List Authenticator) (x : Authenticator) → Contains (reverse xs) x → Contains xs x
in_reverse xs x has = Contains-permutation (reverse xs) xs x (IsPermutation-sym xs (reverse xs) (IsPermutation-reverse xs)) has

above_from : (x y : Authenticator) → by_fields x y ≡ Less → by_fields y x ≡ Greater
above_from x y h = by_fields_total.antisymm y x ∙ ap ordering_reverse h

below_from : (x y : Authenticator) → by_fields y x ≡ Greater → by_fields x y ≡ Less
below_from x y h = by_fields_total.antisymm x y ∙ ap ordering_reverse h

-- the statement's place is the same where what was moved stands behind
place_whole : (held moved : List Authenticator) (x : Authenticator) (place : ℕ) → IsPlaceOf x held place → AreAbove x moved → IsPlaceOf x (with_moved held moved) place
place_whole held moved x place is above = record {
  inside = omega (arith, is.inside, length-append held (reverse moved));
  below = λ k d lo hi. subst (λ (y : Authenticator). by_fields y x ≡ Less) (sym (front k d (omega (arith, hi, is.inside)))) (is.below k d lo hi);
  above = λ k d lo hi. go k d lo hi (cases_lt k (length held));
}
  where
    front : (k : ℕ) (d : Authenticator) → k < length held → get_or (held ++ reverse moved) k d ≡ get_or held k d
    front k d lt = get_or_append_left held (reverse moved) d k lt

    go : (k : ℕ) (d : Authenticator) → place ≤ k → k < length (held ++ reverse moved) → (k < length held) ⊎ (length held ≤ k) → by_fields (get_or (held ++ reverse moved) k d) x ≡ Greater
    go k d lo hi (inl lt) = subst (λ (y : Authenticator). by_fields y x ≡ Greater) (sym (front k d lt)) (is.above k d lo lt)
    go k d lo hi (inr ge) =
        let behind : k - length held < length (reverse moved) = omega (arith, ge, hi, length-append held (reverse moved)) in
        let there : get_or (held ++ reverse moved) k d ≡ get_or (reverse moved) (k - length held) d = get_or-append_right held (reverse moved) (length held) k d refl ge in
        let has = in_reverse moved (get_or (reverse moved) (k - length held) d) (Contains-get_or (reverse moved) (k - length held) d behind) in
        subst (λ (y : Authenticator). by_fields y x ≡ Greater) (sym there) (above_from x (get_or (reverse moved) (k - length held) d) (above (get_or (reverse moved) (k - length held) d) has))

-- ---- a statement that is put

-- one that is held
pub put_held : (held moved : List Authenticator) (x : Authenticator) → IsAscending (with_moved held moved) → AreAbove x moved → Contains held x → IsPut held moved x held moved
put_held held moved x up above has = record {
  ascending = up;
  added = λ y. (λ h. inl h, λ h. ⊎_elim (λ there. there) (λ is. subst (λ (z : Authenticator). Contains (with_moved held moved) z) (sym is) (Contains-append_left held (reverse moved) x has)) h);
  from = λ y h. inr (above y h);
}

-- one that is not
pub put_new : (held moved : List Authenticator) (x : Authenticator) (place : ℕ) (held' behind moved' : List Authenticator) → IsAscending (with_moved held moved) → AreAbove x moved → IsPlaceOf x held place
    → held' ≡ take place held → behind ≡ moved ++ reverse (drop place held) → moved' ≡ behind ++ x ∷ [] → IsPut held moved x held' moved'
put_new held moved x place held' behind moved' up above is less more last =
    let all : with_moved held' moved' ≡ insert (with_moved held moved) place x =
    ap (λ (l : List Authenticator). l ++ reverse moved') less ∙ ap (λ (l : List Authenticator). with_moved (take place held) l) (last ∙ ap (λ (l : List Authenticator). l ++ x ∷ []) more) ∙ moved_put held moved place x is.inside in
    let whole = place_whole held moved x place is above in
    record {
      ascending = subst IsAscending (sym all) (sorted-insert by_fields by_fields_total x (with_moved held moved) place whole.inside up whole.below whole.above);
      added = λ y. subst (λ (l : List Authenticator). Contains l y ↔ (Contains (with_moved held moved) y ⊎ (y ≡ x))) (sym all) (members-insert (with_moved held moved) place x y);
      from = λ y h. from y (Contains-push_cases behind x y (subst (λ (l : List Authenticator). Contains l y) last h));
    }
  where
    later : (y : Authenticator) → Contains (drop place held) y → by_fields x y ≡ Less
    later y (k, lt, at) =
        let inside : place + k < length held = omega (arith, lt, length-drop place held) in
        let there : get_or held (place + k) y ≡ y = sym (get_or-drop place held k y) ∙ at in
        below_from x y (subst (λ (z : Authenticator). by_fields z x ≡ Greater) there (is.above (place + k) y (omega arith) inside))

    from : (y : Authenticator) → Contains behind y ⊎ (x ≡ y) → (y ≡ x) ⊎ (by_fields x y ≡ Less)
    from y (inl h) = ⊎_elim (λ old. inr (above y old)) (λ new. inr (later y (in_reverse (drop place held) y new))) (Contains-append_cases moved (reverse (drop place held)) y (subst (λ (l : List Authenticator). Contains l y) more h))
    from y (inr is) = inl (sym is)

-- ---- one statement after the other

-- How far the statements were put.
pub record IsJoining (old given held rest moved : List Authenticator) : Type 0 where
  pub ascending : IsAscending (with_moved held moved)
  pub rising : IsAscending rest
  pub members : IsUnionWithRest old given (with_moved held moved) rest
  pub apart : (x : Authenticator) → Contains rest x → AreAbove x moved

last_too : (P : Authenticator → Type 0) (xs : List Authenticator) (y : Authenticator) → AllByRecursion P (xs ++ y ∷ []) → P y
last_too P [] y h = h.0
last_too P (x ∷ xs) y h = last_too P xs y h.1

-- the last of an ascending list is above the others
last_above : (xs : List Authenticator) (y : Authenticator) → IsAscending (xs ++ y ∷ []) → (x : Authenticator) → Contains xs x → by_fields x y ≡ Less
unfolding IsStrictlySortedBy
last_above [] y up x has = absurd (omega (arith, has.1))
last_above (z ∷ xs) y up x has = ⊎_elim
    (λ later. last_above xs y up.1 x later)
    (λ is. subst (λ (w : Authenticator). by_fields w y ≡ Less) (sym is) (last_too (λ (w : Authenticator). by_fields z w ≡ Less) xs y up.0))
    (in_cons z xs x has)

-- the last of the rest was put
pub joining_more : (old given held rest rest' moved held' moved' : List Authenticator) (y : Authenticator) → IsJoining old given held rest moved → rest ≡ rest' ++ y ∷ []
    → IsPut held moved y held' moved' → IsJoining old given held' rest' moved'
joining_more old given held rest rest' moved held' moved' y is parts put =
    let up : IsAscending (rest' ++ y ∷ []) = subst IsAscending parts is.rising in
    let last = last_above rest' y up in
    record {
      ascending = put.ascending;
      rising = held_ascends rest' (y ∷ []) up;
      members = union_more old given (with_moved held moved) (with_moved held' moved') rest' y (subst (λ (l : List Authenticator). IsUnionWithRest old given (with_moved held moved) l) parts is.members) put.added;
      apart = λ x has z h. ⊎_elim
          (λ one. subst (λ (w : Authenticator). by_fields x w ≡ Less) (sym one) (last x has))
          (λ above. by_fields_total.trans x y z (last x has) above)
          (put.from z h);
    }
