-- A binary search for an acknowledgement of a message.
use Rattle.std.proofs.Common.{◌≡◌, ℕ, ◌<◌, ◌≤◌, List, length, get_or, Result, Ok, Err, is_ok, Some, refl, sym, ap, subst, ◌∙◌, ⊎_elim, arith}
use Rattle.std.specs.Prelude.{◌↔◌, IsTrue, slice_get}
use Rattle.std.specs.List.Sorted.{IsBinarySearchResult, IsNonDecreasingBy, IsSearchInRange}
use Rattle.std.specs.Ordering.{ordering_index}
use Rattle.std.specs.declared.cmp.Ordering.{Ordering}
use Rattle.std.specs.declared.cmp.Ordering.TheVariants.{Less, Equal, Greater}
use Rattle.std.proofs.lemmas.Bool.{cases_lt}
use Rattle.item_forms.specs.Messages.{Message}
use Rattle.item_forms.specs.Groups.{Acknowledgements, ItemGroup, group_cmp}
use Rattle.item_forms.proofs.GroupOrders.{groups_ascend, groups_hold}
use Rattle.authenticators.proofs.AscendingLists.{below_at}
use Rattle.evidence_item.specs.Checking.{Checked}
use Rattle.kept_evidence.specs.Kept.{by_item}
use Rattle.node_tables.specs.Places.{IsAcknowledged, IsOrder}
use Rattle.node_tables.specs.within.Placing.{group_order_by}
use Rattle.node_tables.proofs.Places.{contains_at}
use Rattle.node_tables.proofs.RowLists.{named_at, same_length}
use Rattle.node_tables.proofs.Sendings.{some_of}

-- what is below an ordering that is `Less` is `Less`, and what is above one that is `Greater` is `Greater`
does_not_fall : (o p : Ordering) → (p ≡ Less → o ≡ Less) → (o ≡ Greater → p ≡ Greater) → ordering_index o ≤ ordering_index p
does_not_fall Less p before behind = omega arith
does_not_fall Equal Less before behind = let e = before refl in absurd cc
does_not_fall Equal Equal before behind = omega arith
does_not_fall Equal Greater before behind = omega arith
does_not_fall Greater Less before behind = let e = before refl in absurd cc
does_not_fall Greater Equal before behind = let e = behind refl in absurd cc
does_not_fall Greater Greater before behind = omega arith

module _ (items : List Checked) (order : List ℕ) (is : IsOrder items order) (m : Message) where
  abbrev g : ItemGroup
  g = Acknowledgements m

  abbrev q : ℕ → Ordering
  q i = group_order_by g (slice_get items i)

  long : length order ≡ length is.kept
  long = same_length (slice_get items) order is.kept is.places

  at : (k : ℕ) (d : ℕ) (e : Checked) → k < length is.kept → slice_get items (get_or order k d) ≡ Some (get_or is.kept k e)
  at k d e inside = named_at (slice_get items) order is.kept k d e is.places inside

  lies : (k : ℕ) (d : ℕ) (e : Checked) → k < length is.kept → q (get_or order k d) ≡ group_cmp g (get_or is.kept k e).item.fields
  lies k d e inside = ap (group_order_by g) (at k d e inside)

  rises : IsNonDecreasingBy (λ i. ordering_index (q i)) order
  rises i j d le inside = ⊎_elim
      (λ (lt : i < j).
      let here : j < length is.kept = let l = long in omega (arith, inside, l) in
      let e = some_of is.kept j here in
      let lower = below_at by_item is.kept i j e is.ascending lt here in
      let one = lies i d e (omega (arith, lt, here)) in
      let other = lies j d e here in
      let up = does_not_fall (group_cmp g (get_or is.kept i e).item.fields) (group_cmp g (get_or is.kept j e).item.fields)
      (λ h. groups_ascend.before g (get_or is.kept i e).item (get_or is.kept j e).item lower h)
      (λ h. groups_ascend.behind g (get_or is.kept i e).item (get_or is.kept j e).item lower h) in
      subst (λ o. ordering_index o ≤ ordering_index (q (get_or order j d))) (sym one) (subst (λ o. ordering_index (group_cmp g (get_or is.kept i e).item.fields) ≤ ordering_index o) (sym other) up))
      (λ (ge : j ≤ i). let same : i ≡ j = omega (arith, le, ge) in subst (λ n. ordering_index (q (get_or order i d)) ≤ ordering_index (q (get_or order n d))) same (omega arith))
      (cases_lt i j)

  found : (i : ℕ) → i < length order → ((d : ℕ) → q (get_or order i d) ≡ Equal) → IsAcknowledged items m
  found i inside equal =
      let here : i < length is.kept = let l = long in omega (arith, inside, l) in
      let e = some_of is.kept i here in
      let c = get_or is.kept i e in
      (c, contains_at items (get_or order i 0) c (at i 0 e here), (groups_hold g c.item.fields).0 (sym (lies i 0 e here) ∙ equal 0))

  missing : (i : ℕ) → IsBinarySearchResult q order (Err i) → IsAcknowledged items m → ⊥
  missing i place (c, has, ack) =
      let (k, inside, same) = is.covers c has in
      let parts = place rises in
      let equal : q (get_or order k 0) ≡ Equal = lies k 0 c inside ∙ ap (λ (x : Checked). group_cmp g x.item.fields) same ∙ (groups_hold g c.item.fields).1 ack in
      let there : k < length order = let l = long in omega (arith, inside, l) in
      ⊎_elim
      (λ lt. let less = parts.0 k 0 (omega arith) lt in cc (equal, less))
      (λ le. let more = parts.1 k 0 le there in cc (equal, more))
      (cases_lt k i)

  -- The search finds one where there is one.
  pub acknowledged_is : (r : Result ℕ ℕ) → IsSearchInRange r (length order) → IsBinarySearchResult q order r → IsTrue (is_ok r) ↔ IsAcknowledged items m
  acknowledged_is (Ok i) inside equal = (λ h. found i inside equal, λ h. refl)
  acknowledged_is (Err i) inside place = ((λ h. absurd cc), (λ h. absurd (missing i place h)))
