-- Segments by their numbers, and the bounds of those that stand side by side.
use Rattle.std.proofs.Common.{◌≡◌, ℕ, ◌+◌, ◌-◌, ◌<◌, ◌≤◌, ◌⊎◌, max, min, List, [], ◌∷◌, ◌++◌, length, take, get_or, set, ap, subst, sym, inl, inr, ⊎_elim, ◌∙◌, arith}
use Rattle.std.proofs.Math.Seq.{take-append_seam}
use Rattle.std.proofs.lemmas.Bool.{cases_lt}
use Rattle.std.proofs.lemmas.List.Elements.{Contains-append_left, Contains-push, Contains-push_cases}
use Rattle.std.proofs.lemmas.List.Sorted.{Contains-permutation, IsPermutation-sym}
use Rattle.std.proofs.lemmas.List.{get_or-set_other, get_or-set_same, get_or-take}
use Rattle.std.specs.List.Sorted.{IsPermutation}
use Rattle.std.specs.List.{Contains}
use Rattle.std.specs.Prelude.{◌↔◌}
use Rattle.node_tables.specs.declared.bounds.Bounds.{Bounds}
use Rattle.node_tables.specs.declared.span.Span.{Span}
use Rattle.node_tables.specs.within.Spanning.{AreBoundedUpTo, IsAround, IsBound, NoneIsAround}

-- The bounds of segments, and of those right before them.
pub bound_both : (spans : List Span) (place : ℕ) (a b : Bounds) → a.count ≤ place → IsBound spans place a → IsBound spans (place - a.count) b
    → IsBound spans place (record { count = a.count + b.count; low = min a.low b.low; last = max a.last b.last })
bound_both spans place a b before here there = record {
  some = omega (arith, here.some);
  inside = omega (arith, there.inside, before);
  low = low;
  last = last;
}
  where
    low : (k : ℕ) (d : Span) → k ≤ place → place < k + (a.count + b.count) → min a.low b.low ≤ (get_or spans k d).low
    low k d le lt = ⊎_elim
        (λ (own : place < k + a.count). let h = here.low k d le own in omega (arith, h))
        (λ (other : k + a.count ≤ place). let h = there.low k d (omega (arith, other)) (omega (arith, other, lt, before)) in omega (arith, h))
        (cases_lt place (k + a.count))

    last : (k : ℕ) (d : Span) → k ≤ place → place < k + (a.count + b.count) → (get_or spans k d).last ≤ max a.last b.last
    last k d le lt = ⊎_elim
        (λ (own : place < k + a.count). let h = here.last k d le own in omega (arith, h))
        (λ (other : k + a.count ≤ place). let h = there.last k d (omega (arith, other)) (omega (arith, other, lt, before)) in omega (arith, h))
        (cases_lt place (k + a.count))

-- What stands before a place is bounded as it was, where nothing else stands there.
pub bound_before : (xs ys : List Span) (bs cs : List Bounds) (n start : ℕ) → AreBoundedUpTo xs bs n → start ≤ n → take start ys ≡ take start xs → take start cs ≡ take start bs → AreBoundedUpTo ys cs start
bound_before xs ys bs cs n start bounded le spans bounds k d lt = record { some = there.some; inside = there.inside; low = low; last = last }
  where
    alike : {X : Type 0} (us vs : List X) → take start vs ≡ take start us → (i : ℕ) (e : X) → i < start → get_or vs i e ≡ get_or us i e
    alike us vs same i e inside = sym (get_or-take start vs i e inside) ∙ ap (λ l. get_or l i e) same ∙ get_or-take start us i e inside

    there : IsBound xs k (get_or cs k d)
    there = subst (λ (b : Bounds). IsBound xs k b) (sym (alike bs cs bounds k d lt)) (bounded k d (omega (arith, lt, le)))

    low : (i : ℕ) (e : Span) → i ≤ k → k < i + (get_or cs k d).count → (get_or cs k d).low ≤ (get_or ys i e).low
    low i e up near = let same : (get_or ys i e).low ≡ (get_or xs i e).low = ap (λ (p : Span). p.low) (alike xs ys spans i e (omega (arith, up, lt))) in let h = there.low i e up near in omega (arith, same, h)

    last : (i : ℕ) (e : Span) → i ≤ k → k < i + (get_or cs k d).count → (get_or ys i e).last ≤ (get_or cs k d).last
    last i e up near = let same : (get_or ys i e).last ≡ (get_or xs i e).last = ap (λ (p : Span). p.last) (alike xs ys spans i e (omega (arith, up, lt))) in let h = there.last i e up near in omega (arith, same, h)

-- One more, in any order.
pub members_put : (xs ys : List Span) (p q : Span) → IsPermutation (xs ++ p ∷ []) ys → Contains ys q ↔ (Contains xs q ⊎ (q ≡ p))
members_put xs ys p q moved = (
  λ has. ⊎_elim (λ (old : Contains xs q). inl old) (λ (new : p ≡ q). inr (sym new)) (Contains-push_cases xs p q (Contains-permutation ys (xs ++ p ∷ []) q (IsPermutation-sym (xs ++ p ∷ []) ys moved) has)),
  ⊎_elim
      (λ (old : Contains xs q). Contains-permutation (xs ++ p ∷ []) ys q moved (Contains-append_left xs (p ∷ []) q old))
      (λ (new : q ≡ p). subst (λ (r : Span). Contains ys r) (sym new) (Contains-permutation (xs ++ p ∷ []) ys p moved (Contains-push xs p))),
)

-- What a vector holds after its elements were written over.
pub written_over : {X : Type 0} (n : ℕ) (xs ys : List X) → n ≡ length xs → take n (xs ++ ys) ≡ xs
written_over n xs ys e = ap (λ m. take m (xs ++ ys)) e ∙ take-append_seam xs ys

-- One more is written.
pub one_bound : (spans : List Span) (bounds : List Bounds) (n : ℕ) (b : Bounds) → n < length bounds → AreBoundedUpTo spans bounds n → IsBound spans n b → AreBoundedUpTo spans (set bounds n b) (n + 1)
one_bound spans bounds n b inside before here k d lt = ⊎_elim
    (λ (first : k < n). subst (λ (q : Bounds). IsBound spans k q) (sym (get_or-set_other bounds n k b d (λ same. omega (arith, first, same)))) (before k d first))
    (λ (last : n ≤ k).
    let same : n ≡ k = omega (arith, lt, last) in
    subst (λ m. IsBound spans m (get_or (set bounds n b) m d)) same (subst (λ (q : Bounds). IsBound spans n q) (sym (get_or-set_same bounds n b d inside)) here))
    (cases_lt k n)

-- What is passed over is not around the numbers.
pub none_passed : (from to : ℕ) (spans : List Span) (end n before : ℕ) (b : Bounds) → 1 ≤ end → n ≤ b.count → (1 < n → b.low ≤ from → to ≤ b.last → ⊥) → IsBound spans (end - 1) b
    → ((d : Span) → IsAround from to (get_or spans (end - 1) d) → ⊥) → NoneIsAround from to spans end before → NoneIsAround from to spans (end - n) before
none_passed from to spans end n before b some most over bound last none k d le lt around = ⊎_elim
    (λ (first : k < end). ⊎_elim
    (λ (under : k < end - 1).
    let lows = bound.low k d (omega (arith, under)) (omega (arith, under, le, most)) in
    let lasts = bound.last k d (omega (arith, under)) (omega (arith, under, le, most)) in
    over (omega (arith, under, le)) (omega (arith, lows, around.low)) (omega (arith, lasts, around.last)))
    (λ (at : end - 1 ≤ k).
    let same : k ≡ end - 1 = omega (arith, at, first, some) in
    last d (record {
      low = let e : (get_or spans k d).low ≡ (get_or spans (end - 1) d).low = ap (λ n. (get_or spans n d).low) same in omega (arith, e, around.low);
      last = let e : (get_or spans k d).last ≡ (get_or spans (end - 1) d).last = ap (λ n. (get_or spans n d).last) same in omega (arith, e, around.last);
    }))
    (cases_lt k (end - 1)))
    (λ (behind : end ≤ k). none k d behind lt around)
    (cases_lt k end)
