-- Places that ascend by the spellings of their items.
use Rattle.std.proofs.Common.{◌≡◌, ℕ, ◌<◌, ◌≤◌, Bool, true, false, cond, List, [], ◌∷◌, ◌++◌, length, get_or, Option, Some, map, refl, sym, ap, subst, ◌∙◌, arith}
use Rattle.std.specs.Prelude.{◌↔◌, ◌⊎◌, Ok, Err, slice_get}
use Rattle.std.specs.List.{Contains, filter, insert}
use Rattle.std.specs.List.Sorted.{IsBinarySearchResult}
use Rattle.std.proofs.lemmas.List.Elements.{Contains-get_or}
use Rattle.std.proofs.lemmas.List.Kept.{IsStrictlySortedBy-filter}
use Rattle.std.proofs.lemmas.Option.{same_Some}
use Rattle.authenticators.proofs.AscendingLists.{members-insert, sorted-insert}
use Rattle.item_forms.proofs.ItemOrders.{by_bytes_exact}
use Rattle.evidence_item.specs.Checking.{Checked}
use Rattle.kept_evidence.specs.Kept.{by_item}
use Rattle.kept_evidence.proofs.Orders.{by_item_total}
use Rattle.node_tables.specs.Places.{ArePlacesOf, AscendBySpelling, item_order_by}
use Rattle.node_tables.specs.within.Placing.{IsNewAmong}
use Rattle.node_tables.proofs.Grown.{still_at}
use Rattle.node_tables.proofs.RowLists.{insert_names, named_at, same_length}
use Rattle.node_tables.proofs.Searching.{IsGap, found_row, gap_found}
use Rattle.node_tables.proofs.Sendings.{some_of}

abbrev rest_of : {Y : Type 0} → List Y → List Y
rest_of [] = []
rest_of (y ∷ ys) = ys

pub cons_same : {Y : Type 0} (y z : Y) (ys zs : List Y) → y ∷ ys ≡ z ∷ zs → (y ≡ z) × (ys ≡ zs)
cons_same y z ys zs e = (same_Some y z (ap (λ l. slice_get l 0) e), ap rest_of e)

pub by_place : (items : List Checked) (i : ℕ) (a b : Checked) → slice_get items i ≡ Some b → item_order_by (slice_get items i) a.item ≡ by_item b a
by_place items i a b at = ap (λ (o : Option Checked). item_order_by o a.item) at

-- ---- an item more

-- what places name they name among more items
pub places_more : (items : List Checked) (x : Checked) (ps : List ℕ) (ks : List Checked) → ArePlacesOf items ps ks → ArePlacesOf (items ++ x ∷ []) ps ks
places_more items x [] [] e = refl
places_more items x [] (k ∷ ks) e = absurd cc
places_more items x (p ∷ ps) [] e = absurd cc
places_more items x (p ∷ ps) (k ∷ ks) e =
    let parts = cons_same (slice_get items p) (Some k) (map (slice_get items) ps) (map Some ks) e in
    ap (λ (o : Option Checked). o ∷ map (slice_get (items ++ x ∷ [])) ps) (still_at items x p k parts.0) ∙ ap (λ (l : List (Option Checked)). Some k ∷ l) (places_more items x ps ks parts.1)

pub asked_more : (items : List Checked) (x : Checked) (places : List ℕ) → AscendBySpelling items places → AscendBySpelling (items ++ x ∷ []) places
asked_more items x places asked = record { named = asked.named; names = places_more items x places asked.named asked.names; ascending = asked.ascending }

-- at each of the places stands an item
pub there_by : (items : List Checked) (places : List ℕ) → AscendBySpelling items places → (i : ℕ) → Contains places i → (c : Checked) × (slice_get items i ≡ Some c)
there_by items places asked i (k, inside, is) =
    let here : k < length asked.named = let l = same_length (slice_get items) places asked.named asked.names in omega (arith, inside, l) in
    let e = some_of asked.named k here in
    (get_or asked.named k e, subst (λ n. slice_get items n ≡ Some (get_or asked.named k e)) is (named_at (slice_get items) places asked.named k i e asked.names here))

-- ---- some of them are taken away

module _ (items : List Checked) (stays : Option Checked → Bool) where
  one_filtered : (b d : Bool) (p : ℕ) (c : Checked) (ps : List ℕ) (cs : List Checked) → b ≡ d → slice_get items p ≡ Some c → ArePlacesOf items ps cs → ArePlacesOf items (cond b (p ∷ ps) ps) (cond d (c ∷ cs) cs)
  one_filtered true true p c ps cs e at is = ap (λ (o : Option Checked). o ∷ map (slice_get items) ps) at ∙ ap (λ (l : List (Option Checked)). Some c ∷ l) is
  one_filtered true false p c ps cs e at is = absurd cc
  one_filtered false true p c ps cs e at is = absurd cc
  one_filtered false false p c ps cs e at is = is

  filtered : (ps : List ℕ) (cs : List Checked) → ArePlacesOf items ps cs → ArePlacesOf items (filter (λ i. stays (slice_get items i)) ps) (filter (λ (c : Checked). stays (Some c)) cs)
  filtered [] [] is = refl
  filtered [] (c ∷ cs) is = absurd cc
  filtered (p ∷ ps) [] is = absurd cc
  filtered (p ∷ ps) (c ∷ cs) is =
      let parts = cons_same (slice_get items p) (Some c) (map (slice_get items) ps) (map Some cs) is in
      one_filtered (stays (slice_get items p)) (stays (Some c)) p c _ _ (ap stays parts.0) parts.0 (filtered ps cs parts.1)

  -- Some of the places ascend as all did.
  pub asked_filtered : (old new : List ℕ) → new ≡ filter (λ i. stays (slice_get items i)) old → AscendBySpelling items old → AscendBySpelling items new
  asked_filtered old new is asked = subst (AscendBySpelling items) (sym is) (record {
    named = filter (λ (c : Checked). stays (Some c)) asked.named;
    names = filtered old asked.named asked.names;
    ascending = IsStrictlySortedBy-filter by_item (λ (c : Checked). stays (Some c)) asked.named asked.ascending;
  })

-- ---- one is put among them

module _ (items : List Checked) (places : List ℕ) (asked : AscendBySpelling items places) (n : ℕ) (x : Checked) (here : slice_get items n ≡ Some x) where
  pub found_is_old : IsNewAmong items n places → (i : ℕ) → i < length places → IsBinarySearchResult (λ j. item_order_by (slice_get items j) x.item) places (Ok i) → ⊥
  found_is_old new i inside equal =
      let e = found_row (slice_get items) by_item (λ j (a : Checked). item_order_by (slice_get items j) a.item) (λ j a b. by_place items j a b) places asked.named x asked.names i 0 inside equal in
      let long = same_length (slice_get items) places asked.named asked.names in
      let at = named_at (slice_get items) places asked.named i 0 x asked.names (omega (arith, inside, long)) in
      let c = get_or asked.named i x in
      new (get_or places i 0) c x (Contains-get_or places i 0 inside) at here (by_bytes_exact c.item x.item e)

  module _ (i : ℕ) (inside : i ≤ length places) (place : IsBinarySearchResult (λ j. item_order_by (slice_get items j) x.item) places (Err i)) where
    gap : IsGap by_item asked.named x i
    gap = gap_found (slice_get items) by_item (λ j (a : Checked). item_order_by (slice_get items j) a.item) (λ j a b. by_place items j a b) places asked.named x asked.names by_item_total asked.ascending i 0 inside place

    pub asked_put : (new : List ℕ) → new ≡ insert places i n → AscendBySpelling items new
    asked_put new is =
        let g = gap in
        subst (AscendBySpelling items) (sym is) (record {
          named = insert asked.named i x;
          names = insert_names (slice_get items) places asked.named i n x asked.names here;
          ascending = sorted-insert by_item by_item_total x asked.named i g.inside asked.ascending g.before g.behind;
        })

    pub members_put : (new : List ℕ) → new ≡ insert places i n → (k : ℕ) → Contains new k ↔ (Contains places k ⊎ (k ≡ n))
    members_put new is k = subst (λ (l : List ℕ). Contains l k ↔ (Contains places k ⊎ (k ≡ n))) (sym is) (members-insert places i n k)
