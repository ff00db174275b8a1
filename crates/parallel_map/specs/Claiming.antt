-- The claim counter: what its seats know, its rule, and its steps.
--
-- The counter is one word: the least number that nobody drew. Each worker who draws has a seat, and the seat's view says what it
-- knows. A view is empty if it has no number and has not seen a word.
use Rattle.std.specs.Prelude.{◌≡◌, ℕ, ◌+◌, ◌<◌, ◌≤◌, ◌==◌, Bool, true, false, List, [], ◌∷◌, ◌++◌, max, length, slice_index, cond, ltb, count_by, sum_by}
use mathlib.Core.Option.{some}
use lib.ListN.{get_elem?}
use Rattle.atomic_table.specs.Table.{State, Me, Step}
use Rattle.parallel_map.specs.declared.rule.View.{View}

-- The number of parts of a counter. A seat that has all of them has seen all that was drawn.
abbrev pub all_parts : ℕ
all_parts = 16

-- The view with these numbers drawn, this word seen last, and this number of parts.
abbrev pub view : List ℕ → ℕ → ℕ → View
view numbers saw parts = record { numbers = numbers; saw = saw; parts = parts }

-- How often x stands in the list.
abbrev pub times : ℕ → List ℕ → ℕ
times x xs = count_by (λ y. y == x) xs

-- 1 for a number below n, else 0.
abbrev pub once_below : ℕ → ℕ → ℕ
once_below x n = cond (ltb x n) 1 0

-- Each number below n is in the list once, and no other number is in it.
pub record EachOnce (n : ℕ) (xs : List ℕ) : Type 0 where
  pub each : (x : ℕ) → times x xs ≡ once_below x n

-- The rule. The parts of all views are 16 in all, and a view without a part has no numbers. The word is at most the count. Each
-- number below the word is in just one view, once, and no other number is in any. The word that a view saw is at most the word.
pub record Claimed (count word : ℕ) (views : List View) : Type 0 where
  pub parts : sum_by (λ v. v.parts) views ≡ all_parts
  pub idle : (seat : ℕ) (v : View) → get_elem? views seat ≡ some v → v.parts ≡ 0 → v.numbers ≡ []
  pub bounded : word ≤ count
  pub once : (x : ℕ) → sum_by (λ v. times x v.numbers) views ≡ once_below x word
  pub seen : (seat : ℕ) (v : View) → get_elem? views seat ≡ some v → v.saw ≤ word

-- The table has one word, and it and the views keep the rule.
pub record Kept (count : ℕ) (s : State ℕ View) : Type 0 where
  pub one_word : length s.words ≡ 1
  pub claimed : Claimed count (slice_index s.words 0) s.views

-- What a draw does. Either the number becomes the seat's own, or the word was a greater one, and the seat has now seen it.
abbrev pub Drew : Bool → ℕ → ℕ → View → View → Type 0
Drew true old found v w = w ≡ view (v.numbers ++ old ∷ []) (old + 1) v.parts
Drew false old found v w = (w ≡ view v.numbers found v.parts) × (old < found)

-- A draw as a step of the table. It draws if the word that is found is the one that the seat saw, and it changes no slot.
abbrev pub Draws : Step ℕ → Me ℕ View → ℕ → Me ℕ View → Type 0
Draws s v found w = Drew (found == s.first) s.first found v.0 w.0 × (w.1 ≡ v.1)

-- The view that two views are made into: it has the numbers and the parts of both, and the greater word seen.
abbrev pub joined : View → View → View
joined v w = view (v.numbers ++ w.numbers) (max v.saw w.saw) (v.parts + w.parts)
