-- A search among rows finds what a search among the elements that they name would find.
use Rattle.std.proofs.Common.{◌≡◌, ℕ, ◌<◌, ◌≤◌, List, length, get_or, Option, Some, sym, ap, ◌∙◌, arith}
use Rattle.std.specs.List.{AllWithin}
use Rattle.std.specs.Prelude.{Ok, Err}
use Rattle.std.specs.declared.cmp.Ordering.{Ordering}
use Rattle.std.specs.declared.cmp.Ordering.TheVariants.{Less, Equal, Greater}
use Rattle.std.specs.Ordering.{ordering_index}
use Rattle.std.specs.List.Sorted.{IsBinarySearchResult, IsNonDecreasingBy, IsStrictlySortedBy}
use Rattle.std.specs.Cmp.{IsTotalOrder}
use Rattle.authenticators.proofs.AscendingLists.{searchable}
use Rattle.node_tables.proofs.RowLists.{Name, named_at, same_length}

-- The place of an element that is not in the list: what is below it stands before, and what is above it from there on.
pub record IsGap {A : Type 0} (order : A → A → Ordering) (held : List A) (a : A) (i : ℕ) : Type 0 where
  pub inside : i ≤ length held
  pub before : AllWithin (λ b. order b a ≡ Less) held 0 i
  pub behind : AllWithin (λ b. order b a ≡ Greater) held i (length held)

module _ {R A : Type 0} (f : R → Option A) (order : A → A → Ordering) (by_row : R → A → Ordering) (by_name : (r : R) (a b : A) → f r ≡ Some b → by_row r a ≡ order b a) where
  module _ (rows : List R) (held : List A) (a : A) (names : Name f rows held) where
    same_order : (k : ℕ) (r : R) (b : A) → k < length held → by_row (get_or rows k r) a ≡ order (get_or held k b) a
    same_order k r b inside = by_name (get_or rows k r) a (get_or held k b) (named_at f rows held k r b names inside)

    rises : IsNonDecreasingBy (λ b. ordering_index (order b a)) held → IsNonDecreasingBy (λ r. ordering_index (by_row r a)) rows
    rises up i j d le inside =
        let long = same_length f rows held names in
        let here : j < length held = omega (arith, inside, long) in
        let one : ordering_index (by_row (get_or rows i d) a) ≡ ordering_index (order (get_or held i a) a) = ap ordering_index (same_order i d a (omega (arith, le, here))) in
        let other : ordering_index (by_row (get_or rows j d) a) ≡ ordering_index (order (get_or held j a) a) = ap ordering_index (same_order j d a here) in
        omega (arith, one, other, up i j a le here)

    pub found_row : (i : ℕ) (d : R) → i < length rows → IsBinarySearchResult (λ r. by_row r a) rows (Ok i) → order (get_or held i a) a ≡ Equal
    found_row i d inside equal =
        let long = same_length f rows held names in
        sym (same_order i d a (omega (arith, inside, long))) ∙ equal d

    pub gap_found : IsTotalOrder order → IsStrictlySortedBy order held → (i : ℕ) (d : R) → i ≤ length rows → IsBinarySearchResult (λ r. by_row r a) rows (Err i) → IsGap order held a i
    gap_found total ascending i d inside place =
        let long = same_length f rows held names in
        let parts = place (rises (searchable order total held a ascending)) in
        record {
          inside = omega (arith, inside, long);
          before = λ k b lo lt. sym (same_order k d b (omega (arith, lt, inside, long))) ∙ parts.0 k d lo lt;
          behind = λ k b lo lt. sym (same_order k d b lt) ∙ parts.1 k d lo (omega (arith, lt, long));
        }
