-- A binary search for the table of a node.
use Rattle.std.proofs.Common.{◌≡◌, ◌≢◌, ℕ, zero, suc, ◌<◌, List, [], ◌∷◌, length, Some, refl, sym, ap, subst, ◌∙◌, ⊎_elim, arith}
use Rattle.std.specs.Prelude.{Result, Ok, Err, IfNone, IfSome, slice_get}
use Rattle.std.specs.Result.{result_ok}
use Rattle.std.specs.List.{Contains}
use Rattle.std.specs.List.Sorted.{IsBinarySearchResult, IsNonDecreasingBy, IsSearchInRange}
use Rattle.std.specs.Ordering.{nat_cmp, ordering_index}
use Rattle.std.specs.declared.cmp.Ordering.TheVariants.{Less, Equal, Greater}
use Rattle.std.proofs.lemmas.Bool.{cases_lt}
use Rattle.std.proofs.lemmas.Cmp.{nat_cmp_total, tied_itself}
use Rattle.std.proofs.lemmas.Option.{get_or_from_slice_get}
use Rattle.authenticators.proofs.AscendingLists.{searchable}
use Rattle.node_tables.specs.declared.table.Table.{Table}
use Rattle.node_tables.specs.Steps.{AscendByNode, by_node}
use Rattle.node_tables.proofs.Stepping.{by_node_total, nat_equal}

some_at : {X : Type 0} (xs : List X) (i : ℕ) → i < length xs → (x : X) × (slice_get xs i ≡ Some x)
some_at [] i inside = absurd (omega (arith, inside))
some_at (x ∷ xs) zero inside = (x, refl)
some_at (x ∷ xs) (suc i) inside = some_at xs i (omega (arith, inside))

module _ (tables : List Table) (node : ℕ) (up : AscendByNode tables) where
  none_by : (i : ℕ) → (IsNonDecreasingBy (λ (t : Table). ordering_index (nat_cmp t.node node)) tables → IsBinarySearchResult (λ (t : Table). nat_cmp t.node node) tables (Err i)) → (t : Table) → Contains tables t → t.node ≢ node
  none_by i place t (k, inside, is) same =
      let rising : IsNonDecreasingBy (λ (u : Table). ordering_index (nat_cmp u.node node)) tables = subst (λ n. IsNonDecreasingBy (λ (u : Table). ordering_index (nat_cmp u.node n)) tables) same (searchable by_node by_node_total tables t up) in
      let parts = place rising rising in
      let tied : nat_cmp t.node node ≡ Equal = ap (nat_cmp t.node) (sym same) ∙ tied_itself nat_cmp_total t.node in
      ⊎_elim
      (λ lt. let less : nat_cmp t.node node ≡ Less = ap (λ (u : Table). nat_cmp u.node node) (sym is) ∙ parts.0 k t (omega arith) lt in cc (tied, less))
      (λ le. let more : nat_cmp t.node node ≡ Greater = ap (λ (u : Table). nat_cmp u.node node) (sym is) ∙ parts.1 k t le inside in cc (tied, more))
      (cases_lt k i)

  pub found : (r : Result ℕ ℕ) → IsSearchInRange r (length tables) → IsBinarySearchResult (λ (t : Table). nat_cmp t.node node) tables r
      → IfNone (result_ok r) ((t : Table) → Contains tables t → t.node ≢ node) × IfSome (result_ok r) (λ i. (t : Table) × (slice_get tables i ≡ Some t) × (t.node ≡ node))
  found (Ok i) inside equal =
      let at = some_at tables i inside in
      let tied : nat_cmp at.0.node node ≡ Equal = ap (λ (t : Table). nat_cmp t.node node) (sym (get_or_from_slice_get tables i at.0 at.0 at.1)) ∙ equal at.0 in
      (tt, (at.0, at.1, nat_equal at.0.node node tied))
  found (Err i) inside place = (none_by i (λ _. place), tt)
