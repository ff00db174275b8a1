-- How the elements lie in tiers.
use Rattle.std.specs.Prelude.{◌≡◌, ℕ, ◌*◌, ◌+◌, ◌-◌, ◌<◌, ◌≤◌, List, length, map, min, slice_index, slice_set}
use Rattle.std.specs.List.{flat_map}
use Rattle.std.specs.VecDeque.{deque_capacity, deque_items, deque_len}
use Rattle.std.specs.declared.collections.VecDeque.{VecDeque}

module _ {X Z : Type 0} where
  -- The elements of all tiers, those of one tier after those of the tier before it.
  abbrev pub items_of : List (VecDeque X Z) → List X
  items_of tiers = flat_map (λ (t : VecDeque X Z). deque_items t) tiers

  -- How many elements each tier has.
  abbrev pub lengths : List (VecDeque X Z) → List ℕ
  lengths tiers = map (λ (t : VecDeque X Z). deque_len t) tiers

  -- How many elements each tier has room for in all.
  abbrev pub capacities : List (VecDeque X Z) → List ℕ
  capacities tiers = map (λ (t : VecDeque X Z). deque_capacity t) tiers

-- The tiers hold n elements, and each has `size` of them at most. Each tier has as many as it can of those that the full tiers
-- before it leave.
pub record AreFilled (size : ℕ) (lengths : List ℕ) (n : ℕ) : Type 0 where
  pub each : (k : ℕ) → k < length lengths → slice_index lengths k ≡ min size (n - size * k)

-- The tiers have room for n elements that fill them in this way.
pub record HaveRoom (size : ℕ) (capacities : List ℕ) (n : ℕ) : Type 0 where
  pub each : (k : ℕ) → k < length capacities → min size (n - size * k) ≤ slice_index capacities k
  pub enough : n ≤ size * length capacities

-- The tiers hold n elements, and have room for as many as `most`.
pub record AreTiers {X Z : Type 0} (size : ℕ) (tiers : List (VecDeque X Z)) (n most : ℕ) : Type 0 where
  pub total : length (items_of tiers) ≡ n
  pub filled : AreFilled size (lengths tiers) n
  pub room : HaveRoom size (capacities tiers) most
  pub within : n ≤ most
  pub some : 0 < size

-- A tier that is there got one element more. The one behind it had some, and got one less.
pub record IsPulled (old new : List ℕ) (tier : ℕ) : Type 0 where
  pub inside : tier + 1 < length old
  pub some : 1 ≤ slice_index old (tier + 1)
  pub moved : new ≡ slice_set (slice_set old (tier + 1) (slice_index old (tier + 1) - 1)) tier (slice_index old tier + 1)
