-- What a segment takes of the open audit challenges.
use Rattle.std.proofs.Common.{◌≡◌, ℕ, ◌+◌, ◌<◌, ◌≤◌, Bool, true, false, not, List, length, get_or, Option, Some, None, Ok, Err, refl, sym, ap, subst, ◌∙◌, ⊎_elim, arith}
use Rattle.std.specs.Prelude.{◌||◌, slice_get}
use Rattle.std.specs.List.{filter, remove_range}
use Rattle.std.specs.List.Sorted.{IsBinarySearchResult}
use Rattle.std.specs.Ordering.{is_eq, ordering_reverse}
use Rattle.std.specs.declared.cmp.Ordering.{Ordering}
use Rattle.std.specs.declared.cmp.Ordering.TheVariants.{Less, Equal, Greater}
use Rattle.std.proofs.lemmas.Bool.{cases_lt}
use Rattle.authenticators.proofs.AscendingLists.{below_at}
use Rattle.item_forms.proofs.ItemOrders.{by_bytes_exact}
use Rattle.item_forms.specs.Pieces.{Piece, by_bytes}
use Rattle.evidence_item.specs.Checking.{Checked}
use Rattle.kept_evidence.specs.Kept.{by_item}
use Rattle.kept_evidence.proofs.Orders.{by_item_total}
use Rattle.node_tables.specs.Places.{AscendBySpelling, item_order_by}
use Rattle.node_tables.specs.within.Named.{is_like}
use Rattle.node_tables.specs.within.Sendings.{audited_by, told_audit}
use Rattle.node_tables.proofs.Receipts.{both_filters}
use Rattle.node_tables.proofs.RowLists.{named_at, same_length}
use Rattle.node_tables.proofs.Searching.{IsGap, found_row, gap_found}
use Rattle.node_tables.proofs.Asked.{by_place}
use Rattle.node_tables.proofs.Sendings.{all_stay, equal_is, removed}

-- ---- items of one spelling

like_same : (o p : Option Checked) → is_like o p ≡ true → (c : Checked) × (d : Checked) × (o ≡ Some c) × (p ≡ Some d) × (c.item ≡ d.item)
like_same o None h = absurd cc
like_same None (Some d) h = absurd cc
like_same (Some c) (Some d) h = (c, d, refl, refl, by_bytes_exact c.item d.item (equal_is (by_bytes c.item d.item) h))

turned_equal : (o : Ordering) → o ≡ ordering_reverse o → o ≡ Equal
turned_equal Less h = absurd cc
turned_equal Equal h = refl
turned_equal Greater h = absurd cc

pub like_itself : (o : Option Checked) (c : Checked) → o ≡ Some c → is_like o o ≡ true
like_itself o c is = subst (λ (p : Option Checked). is_like p p ≡ true) (sym is) (ap is_eq (turned_equal (by_item c c) (by_item_total.antisymm c c)))

same_audited : (c d : Checked) (q : Option Checked) → c.item ≡ d.item → audited_by (Some c) q ≡ audited_by (Some d) q
same_audited c d None is = refl
same_audited c d (Some e) is = ap (λ (x : Piece). told_audit x.fields e.item.fields) is

pub audited_like : (o p q : Option Checked) → is_like o p ≡ true → audited_by p q ≡ true → audited_by o q ≡ true
audited_like o p q h audited =
    let (c, d, at_c, at_d, same) = like_same o p h in
    ap (λ (r : Option Checked). audited_by r q) at_c ∙ same_audited c d q same ∙ sym (ap (λ (r : Option Checked). audited_by r q) at_d) ∙ audited

-- ---- one is looked up by its spelling

module _ (items : List Checked) (places : List ℕ) (asked : AscendBySpelling items places) (x : Checked) where
  abbrev like : ℕ → Bool
  like i = is_like (slice_get items i) (Some x)

  abbrev order : ℕ → Ordering
  order i = item_order_by (slice_get items i) x.item

  long : length places ≡ length asked.named
  long = same_length (slice_get items) places asked.named asked.names

  lies : (k d : ℕ) → k < length asked.named → order (get_or places k d) ≡ by_item (get_or asked.named k x) x
  lies k d here = ap (λ (o : Option Checked). item_order_by o x.item) (named_at (slice_get items) places asked.named k d x asked.names here)

  pub one_found : (i : ℕ) → i < length places → IsBinarySearchResult order places (Ok i) → remove_range places i (i + 1) ≡ filter (λ k. not (like k)) places
  one_found i inside equal = removed like places i (i + 1) (omega arith) (omega (arith, inside)) before here behind
    where
      at_i : i < length asked.named
      at_i = let l = long in omega (arith, inside, l)

      same : (get_or asked.named i x).item ≡ x.item
      same = by_bytes_exact (get_or asked.named i x).item x.item (found_row (slice_get items) by_item (λ j (a : Checked). item_order_by (slice_get items j) a.item) (λ j a b. by_place items j a b) places asked.named x asked.names i 0 inside equal)

      before : (k d : ℕ) → k < i → like (get_or places k d) ≡ false
      before k d lt =
          let lower : by_item (get_or asked.named k x) (get_or asked.named i x) ≡ Less = below_at by_item asked.named k i x asked.ascending lt at_i in
          ap is_eq (lies k d (omega (arith, lt, at_i)) ∙ ap (by_bytes (get_or asked.named k x).item) (sym same) ∙ lower)

      here : (k d : ℕ) → i ≤ k → k < i + 1 → like (get_or places k d) ≡ true
      here k d lo hi = let at : k ≡ i = omega (arith, lo, hi) in subst (λ n. like (get_or places n d) ≡ true) (sym at) (ap is_eq (equal d))

      behind : (k d : ℕ) → i + 1 ≤ k → k < length places → like (get_or places k d) ≡ false
      behind k d lo hi =
          let at_k : k < length asked.named = let l = long in omega (arith, hi, l) in
          let upper : by_item (get_or asked.named i x) (get_or asked.named k x) ≡ Less = below_at by_item asked.named i k x asked.ascending (omega (arith, lo)) at_k in
          let turned : by_item (get_or asked.named k x) (get_or asked.named i x) ≡ Greater = by_item_total.antisymm (get_or asked.named k x) (get_or asked.named i x) ∙ ap ordering_reverse upper in
          ap is_eq (lies k d at_k ∙ ap (by_bytes (get_or asked.named k x).item) (sym same) ∙ turned)

  pub none_found : (i : ℕ) → i ≤ length places → IsBinarySearchResult order places (Err i) → places ≡ filter (λ k. not (like k)) places
  none_found i inside place = all_stay like places each
    where
      gap : IsGap by_item asked.named x i
      gap = gap_found (slice_get items) by_item (λ j (a : Checked). item_order_by (slice_get items j) a.item) (λ j a b. by_place items j a b) places asked.named x asked.names by_item_total asked.ascending i 0 inside place

      each : (k d : ℕ) → k < length places → like (get_or places k d) ≡ false
      each k d lt =
          let at_k : k < length asked.named = let l = long in omega (arith, lt, l) in
          ⊎_elim
          (λ (first : k < i). ap is_eq (lies k d at_k ∙ gap.before k x (omega arith) first))
          (λ (le : i ≤ k). ap is_eq (lies k d at_k ∙ gap.behind k x le at_k))
          (cases_lt k i)

-- what stands nowhere is like nothing
pub none_like : (items : List Checked) (places : List ℕ) (o : Option Checked) → o ≡ None → places ≡ filter (λ k. not (is_like (slice_get items k) o)) places
none_like items places o is = subst (λ (p : Option Checked). places ≡ filter (λ k. not (is_like (slice_get items k) p)) places) (sym is) (all_stay (λ k. false) places (λ k d lt. refl))

pub some_like : (items : List Checked) (places : List ℕ) (o : Option Checked) (x : Checked) (new : List ℕ) → o ≡ Some x → new ≡ filter (λ k. not (is_like (slice_get items k) (Some x))) places → new ≡ filter (λ k. not (is_like (slice_get items k) o)) places
some_like items places o x new is h = subst (λ (p : Option Checked). new ≡ filter (λ k. not (is_like (slice_get items k) p)) places) (sym is) h

-- ---- what passes tests

either : (a b : Bool) → (a ≡ true → b ≡ true) → (a || b) ≡ b
either true b h = sym (h refl)
either false b h = refl

-- what passes a weaker test passes both
pub weaker : {X : Type 0} (p q : X → Bool) (xs : List X) → ((x : X) → q x ≡ true → p x ≡ true) → filter (λ x. not (p x)) (filter (λ x. not (q x)) xs) ≡ filter (λ x. not (p x)) xs
weaker p q xs h = both_filters q p xs ∙ (λ k. filter (λ x. not (either (q x) (p x) (h x) k)) xs)
