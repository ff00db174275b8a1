-- A binary search, by what is known of the elements before and behind those that are left.
use Rattle.std.proofs.Common.{◌≡◌, ℕ, ◌+◌, ◌<◌, ◌≤◌, List, length, get_or, refl, ap, arith}
use Rattle.std.proofs.lemmas.List.{get_or_read}
use Rattle.std.specs.List.{AllWithin}
use Rattle.std.specs.List.Sorted.{IsNonDecreasingBy, IsPartitionPoint}
use Rattle.std.specs.Ordering.{ordering_index}
use Rattle.std.specs.declared.cmp.Ordering.{Ordering}
use Rattle.std.specs.declared.cmp.Ordering.TheVariants.{Equal, Greater, Less}

-- Where the elements ascend, what is looked for lies behind all below `low`, and before all from `high` on.
pub record Narrows {X : Type 0} (order : X → Ordering) (xs : List X) (low high : ℕ) : Type 0 where
  pub rising : low ≤ high
  pub within : high ≤ length xs
  pub sides : IsNonDecreasingBy (λ y. ordering_index (order y)) xs → AllWithin (λ y. order y ≡ Less) xs 0 low × AllWithin (λ y. order y ≡ Greater) xs high (length xs)

least : (o : Ordering) → ordering_index o ≤ 0 → o ≡ Less
least Less h = refl
least Equal h = absurd (omega arith)
least Greater h = absurd (omega arith)

greatest : (o : Ordering) → 2 ≤ ordering_index o → o ≡ Greater
greatest Less h = absurd (omega arith)
greatest Equal h = absurd (omega arith)
greatest Greater h = refl

module _ {X : Type 0} where
  pub narrows_none : (order : X → Ordering) (xs : List X) → Narrows order xs 0 (length xs)
  narrows_none order xs = record {
    rising = omega arith;
    within = omega arith;
    sides = λ up. (λ k d from to. absurd (omega arith), λ k d from to. absurd (omega arith));
  }

  -- An element before what is looked for.
  pub narrows_behind : (order : X → Ordering) (xs : List X) (low high middle : ℕ) (y : X) → Narrows order xs low high → low ≤ middle → middle < high → y ≡ get_or xs middle y → order y ≡ Less → Narrows order xs (middle + 1) high
  narrows_behind order xs low high middle y s from to read is =
      let within = s.within in
      record {
        rising = omega arith;
        within = s.within;
        sides = λ up. (
          λ k d zero_le lt.
              let first : ordering_index (order (get_or xs k d)) ≤ ordering_index (order (get_or xs middle d)) = up k middle d (omega arith) (omega arith) in
              let at = ap (λ (z : X). ordering_index (order z)) (get_or_read xs middle y (omega arith) read d) in
              let none = ap (λ (o : Ordering). ordering_index o) is in
              least (order (get_or xs k d)) (omega arith),
          (s.sides up).1,
        );
      }

  -- An element behind it.
  pub narrows_before : (order : X → Ordering) (xs : List X) (low high middle : ℕ) (y : X) → Narrows order xs low high → low ≤ middle → middle < high → y ≡ get_or xs middle y → order y ≡ Greater → Narrows order xs low middle
  narrows_before order xs low high middle y s from to read is =
      let within = s.within in
      record {
        rising = from;
        within = omega arith;
        sides = λ up. (
          (s.sides up).0,
          λ k d le lt.
              let last : ordering_index (order (get_or xs middle d)) ≤ ordering_index (order (get_or xs k d)) = up middle k d le lt in
              let at = ap (λ (z : X). ordering_index (order z)) (get_or_read xs middle y (omega arith) read d) in
              let two = ap (λ (o : Ordering). ordering_index o) is in
              greatest (order (get_or xs k d)) (omega arith),
        );
      }

  -- None is left.
  pub narrowed : (order : X → Ordering) (xs : List X) (low high : ℕ) → Narrows order xs low high → high ≤ low → IsNonDecreasingBy (λ y. ordering_index (order y)) xs → IsPartitionPoint (λ y. order y ≡ Less) (λ y. order y ≡ Greater) xs low
  narrowed order xs low high s end up =
      let rising = s.rising in
      ((s.sides up).0, λ k d from to. (s.sides up).1 k d (omega arith) to)
