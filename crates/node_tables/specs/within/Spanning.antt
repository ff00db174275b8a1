-- Segments by their numbers, and the bounds of those that stand side by side.
use Rattle.std.specs.Prelude.{◌≡◌, ◌≤◌, ◌<◌, ◌+◌, ℕ, List, length, slice_index_or, vec_capacity, vec_len}
use Rattle.std.specs.declared.vec.Vec.{Vec}
use Rattle.node_tables.specs.declared.bounds.Bounds.{Bounds}
use Rattle.node_tables.specs.declared.span.Span.{Span}

-- One more stands in the room that was there.
pub record IsLonger {X Z : Type 0} (old new : Vec X Z) : Type 0 where
  pub len : vec_len new ≡ vec_len old + 1
  pub capacity : vec_capacity new ≡ vec_capacity old

-- Both numbers lie from the least number of the segment to its greatest.
pub record IsAround (from to : ℕ) (p : Span) : Type 0 where
  pub low : p.low ≤ from
  pub last : to ≤ p.last

-- So it is of none that stands from one place to another.
abbrev pub NoneIsAround : ℕ → ℕ → List Span → ℕ → ℕ → Type 0
NoneIsAround from to spans start end = (k : ℕ) (d : Span) → start ≤ k → k < end → IsAround from to (slice_index_or spans k d) → ⊥

-- The bounds are of so many segments up to a place: no number of theirs is less than the least, and none is greater than the greatest.
pub record IsBound (spans : List Span) (place : ℕ) (b : Bounds) : Type 0 where
  pub some : 1 ≤ b.count
  pub inside : b.count ≤ place + 1
  pub low : (k : ℕ) (d : Span) → k ≤ place → place < k + b.count → b.low ≤ (slice_index_or spans k d).low
  pub last : (k : ℕ) (d : Span) → k ≤ place → place < k + b.count → (slice_index_or spans k d).last ≤ b.last

-- At each of the first places stand such bounds.
abbrev pub AreBoundedUpTo : List Span → List Bounds → ℕ → Type 0
AreBoundedUpTo spans bounds n = (k : ℕ) (d : Bounds) → k < n → IsBound spans k (slice_index_or bounds k d)

-- And at the place of each segment.
pub record AreBounded (spans : List Span) (bounds : List Bounds) : Type 0 where
  pub long : length bounds ≡ length spans
  pub each : AreBoundedUpTo spans bounds (length bounds)
