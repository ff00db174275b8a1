-- Digests that ascend, as a list in order and each above the one before it.
use Rattle.std.proofs.Common.{◌≡◌, ℕ, true, List, [], ◌∷◌, refl, ap, arith}
use Rattle.std.specs.List.{AllByRecursion}
use Rattle.std.specs.List.Sorted.{IsStrictlySortedBy}
use Rattle.std.specs.Ordering.{is_lt}
use Rattle.std.specs.declared.cmp.Ordering.{Ordering}
use Rattle.std.specs.declared.cmp.Ordering.TheVariants.{Less, Equal, Greater}
use Rattle.std.proofs.lemmas.List.Elements.{All-from_recursion, recursion_from_All}
use Rattle.log_chain.specs.Fields.{IsBytesOf}
use Rattle.containers.specs.CheckedItems.{is_before}
use Rattle.transfer.specs.declared.reading.Rule.TheVariants as rule
use Rattle.transfer.specs.Digests.{AreDigests, by_digest}
use Rattle.transfer.proofs.DigestLists.{AreAfter, above_none}
use Rattle.transfer.proofs.Ordered.{all_above}

is_less : (o : Ordering) → is_lt o ≡ true → o ≡ Less
is_less Less e = refl
is_less Equal e = absurd cc
is_less Greater e = absurd cc

ascends_from : (x : List ℕ) (xs : List (List ℕ)) → AreAfter rule.Ascending x xs → IsStrictlySortedBy by_digest (x ∷ xs)
unfolding IsStrictlySortedBy
ascends_from x [] above = (tt, tt)
ascends_from x (y ∷ ys) above =
    let less : by_digest x y ≡ Less = is_less (by_digest x y) above.1 in
    let rest = ascends_from y ys above.2 in
    ((less, all_above x y ys less rest.0), rest)

pub ascends : (last : List ℕ) (xs : List (List ℕ)) → AreAfter rule.Ascending last xs → IsStrictlySortedBy by_digest xs
unfolding IsStrictlySortedBy
ascends last [] above = tt
ascends last (x ∷ xs) above = ascends_from x xs above.2

each_fits : (last : List ℕ) (xs : List (List ℕ)) → AreAfter rule.Ascending last xs → AllByRecursion (IsBytesOf 32) xs
each_fits last [] above = tt
each_fits last (x ∷ xs) above = (above.0, each_fits x xs above.2)

-- and back
abbrev IsFirstAbove : List ℕ → List (List ℕ) → Type 0
IsFirstAbove last [] = Unit {0}
IsFirstAbove last (d ∷ ds) = is_before last d ≡ true

next_above : (x : List ℕ) (xs : List (List ℕ)) → AllByRecursion (λ y. by_digest x y ≡ Less) xs → IsFirstAbove x xs
next_above x [] all = tt
next_above x (y ∷ ys) all = ap is_lt all.0

are_above : (last : List ℕ) (xs : List (List ℕ)) → IsFirstAbove last xs → IsStrictlySortedBy by_digest xs → AllByRecursion (IsBytesOf 32) xs → AreAfter rule.Ascending last xs
unfolding IsStrictlySortedBy
are_above last [] first up fits = tt
are_above last (x ∷ xs) first up fits = (fits.0, first, are_above x xs (next_above x xs up.0) up.1 fits.1)

first_above : (xs : List (List ℕ)) → AllByRecursion (IsBytesOf 32) xs → IsFirstAbove [] xs
first_above [] fits = tt
first_above (x ∷ xs) fits = above_none x (omega (arith, fits.0.count))

pub digests_after : (ds : List (List ℕ)) → AreDigests ds → AreAfter rule.Ascending [] ds
digests_after ds h = let fits = recursion_from_All (IsBytesOf 32) ds h.each in are_above [] ds (first_above ds fits) h.ascending fits

pub after_digests : (ds : List (List ℕ)) → AreAfter rule.Ascending [] ds → AreDigests ds
after_digests ds after = record { ascending = ascends [] ds after; each = All-from_recursion (IsBytesOf 32) ds (each_fits [] ds after) }
