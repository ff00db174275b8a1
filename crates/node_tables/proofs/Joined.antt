-- A store with one item more.
use Rattle.std.proofs.Common.{◌≡◌, ℕ, ◌<◌, ◌≤◌, List, [], ◌∷◌, ◌++◌, length, get_or, Some, sym, ap, subst, ◌∙◌, inl, inr, ⊎_elim, arith}
use Rattle.std.specs.Prelude.{Result, Ok, Err, IfErr, IfOk, slice_get}
use Rattle.std.specs.List.{Contains, insert}
use Rattle.std.specs.List.Sorted.{IsBinarySearchResult, IsSearchInRange}
use Rattle.std.specs.declared.cmp.Ordering.TheVariants.{Equal}
use Rattle.item_forms.proofs.ItemOrders.{by_bytes_exact}
use Rattle.kept_evidence.proofs.Places.{not_kept}
use Rattle.std.proofs.lemmas.List.Elements.{Contains-get_or, Contains-push_cases}
use Rattle.std.proofs.lemmas.Option.{same_Some, slice_get-get_or, slice_get_within}
use Rattle.authenticators.specs.Directory.{Listing}
use Rattle.authenticators.proofs.AscendingLists.{members-insert, sorted-insert}
use Rattle.replay_verifier.specs.Meaning.{Meaning}
use Rattle.item_forms.specs.Pieces.{Piece}
use Rattle.evidence_item.specs.Checking.{Checked}
use Rattle.kept_evidence.specs.Kept.{AreKept, IsWhole, Keeps, by_item}
use Rattle.kept_evidence.proofs.Orders.{bare, by_item_total}
use Rattle.node_tables.specs.declared.table.Table.{Table}
use Rattle.node_tables.specs.Indexed.{HasNode, IsIndexed, IsTable}
use Rattle.node_tables.specs.Places.{IsGapAt, IsOrder, item_order_by}
use Rattle.node_tables.specs.Rooms.{HasRoomFor, IsReady, IsRoomier, ItemRooms}
use Rattle.node_tables.specs.Steps.{AllTables, AscendByNode, EachBecomes}
use Rattle.node_tables.proofs.Grown.{last_at}
use Rattle.node_tables.proofs.Places.{at_contains, contains_at}
use Rattle.node_tables.proofs.RowLists.{insert_names, named_at, same_length}
use Rattle.node_tables.proofs.Searching.{IsGap, found_row, gap_found}
use Rattle.node_tables.proofs.Stepping.{ascend_still}
use Rattle.node_tables.proofs.Asked.{by_place, places_more}
use Rattle.node_tables.proofs.Whole.{table_roomier}

-- ---- the order

module _ (items : List Checked) (order : List ℕ) (is : IsOrder items order) where
  -- what stands in the order stands among the items, and the other way round
  pub kept_items : (c : Checked) → Contains is.kept c → Contains items c
  kept_items c (k, inside, same) =
      let at = named_at (slice_get items) order is.kept k 0 c is.places inside in
      contains_at items (get_or order k 0) c (at ∙ ap Some same)

  -- what the search finds is there
  pub found_there : (x : Piece) (i : ℕ) → i < length order → IsBinarySearchResult (λ j. item_order_by (slice_get items j) x) order (Ok i) → Keeps items x
  found_there x i inside equal =
      let e = found_row (slice_get items) by_item (λ j (a : Checked). item_order_by (slice_get items j) a.item) (λ j a b. by_place items j a b) order is.kept (bare x) is.places i 0 inside equal in
      let long = same_length (slice_get items) order is.kept is.places in
      let c = get_or is.kept i (bare x) in
      (c, kept_items c (in_kept i (omega (arith, inside, long))), same_item c e)
    where
      in_kept : (i : ℕ) → i < length is.kept → Contains is.kept (get_or is.kept i (bare x))
      in_kept i lt = Contains-get_or is.kept i (bare x) lt

      same_item : (c : Checked) → by_item c (bare x) ≡ Equal → c.item ≡ x
      same_item c e = by_bytes_exact c.item x e

  module _ (x : Checked) (i : ℕ) (inside : i ≤ length order) (place : IsBinarySearchResult (λ j. item_order_by (slice_get items j) x.item) order (Err i)) where
    gap : IsGap by_item is.kept x i
    gap = gap_found (slice_get items) by_item (λ j (a : Checked). item_order_by (slice_get items j) a.item) (λ j a b. by_place items j a b) order is.kept x is.places by_item_total is.ascending i 0 inside place

    -- what it does not find is not there
    pub not_there : Keeps items x.item → ⊥
    not_there (c, has, same) =
        let g = gap in
        not_kept is.kept x.item i (record { inside = g.inside; before = g.before; behind = g.behind }) (c, is.covers c has, same)

    -- with it in its place the order is that of more items
    pub order_more : IsOrder (items ++ x ∷ []) (insert order i (length items))
    order_more =
        let g = gap in
        record {
          kept = insert is.kept i x;
          places = insert_names (slice_get (items ++ x ∷ [])) order is.kept i (length items) x (places_more items x order is.kept is.places) (last_at items x);
          ascending = sorted-insert by_item by_item_total x is.kept i g.inside is.ascending g.before g.behind;
          covers = λ c has. (members-insert is.kept i x c).1 (⊎_elim (λ old. inl (is.covers c old)) (λ new. inr (sym new)) (Contains-push_cases items x c has));
        }

-- ---- the store

-- a node that had a table has one
pub node_still : (R : Table → Table → Type 0) → ((t u : Table) → R t u → u.node ≡ t.node) → (old new : List Table) → length new ≡ length old → EachBecomes R old new → (j : ℕ) → HasNode old j → HasNode new j
node_still R node old new long each j (t, has, own) =
    let (i, at) = at_contains old t has in
    let lt = slice_get_within old i t at in
    let u = get_or new i t in
    let in_new : slice_get new i ≡ Some u = slice_get-get_or new i t (omega (arith, lt, long)) in
    let (s, in_old, step) = each i u in_new in
    (u, contains_at new i u in_new, node s u step ∙ ap (λ (z : Table). z.node) (same_Some s t (sym in_old ∙ at)) ∙ own)

module _ {S : Type 0} (ds : Listing) (program : Meaning S) where
  -- the items in their order, as a plain list of kept items
  pub kept_of : (items : List Checked) (order : List ℕ) (is : IsOrder items order) → ((c : Checked) → Contains items c → IsWhole ds program c) → AreKept ds program is.kept
  kept_of items order is whole = record { ascending = is.ascending; whole = λ c has. whole c (kept_items items order is c has) }

  module _ (items : List Checked) (order : List ℕ) (tables : List Table) (store : IsIndexed ds program items order tables) where
    -- more room changes nothing
    pub roomier_store : (more : List Table) → length more ≡ length tables → EachBecomes IsRoomier tables more → IsIndexed ds program items order more
    roomier_store more long each = record {
      ordered = store.ordered;
      whole = store.whole;
      ascending = ascend_still IsRoomier tables more (λ t u same. same.node) each store.ascending;
      listed = λ j is. node_still IsRoomier (λ t u same. same.node) tables more long each j (store.listed j is);
      each = λ i u at. let (t, in_old, same) = each i u at in table_roomier items t u same (store.each i t in_old);
    }

    module _ (x : Checked) (whole : IsWhole ds program x) where
      abbrev more : List Checked
      more = items ++ x ∷ []

      pub whole_more : (c : Checked) → Contains more c → IsWhole ds program c
      whole_more c has = ⊎_elim (λ old. store.whole c old) (λ new. subst (IsWhole ds program) new whole) (Contains-push_cases items x c has)

      pub store_more : (after : List ℕ) (new : List Table) → IsOrder more after → length new ≡ length tables → AscendByNode new → AllTables (IsTable more) new → EachBecomes (ItemRooms x) tables new → IsIndexed ds program more after new
      store_more after new ordered long ascending each rooms = record {
        ordered = ordered;
        whole = whole_more;
        ascending = ascending;
        listed = λ j is. node_still (ItemRooms x) (λ t u step. step.node) tables new long rooms j (store.listed j is);
        each = each;
      }

-- What a search finds, or where it would stand.
pub found_or : (items : List Checked) (order : List ℕ) (is : IsOrder items order) (x : Piece) (r : Result ℕ ℕ) → IsSearchInRange r (length order) → IsBinarySearchResult (λ j. item_order_by (slice_get items j) x) order r
    → IfOk r (λ i. Keeps items x) × IfErr r (IsGapAt items order x)
found_or items order is x (Ok i) inside equal = (found_there items order is x i inside equal, tt)
found_or items order is x (Err i) inside place = (tt, record { inside = inside; searched = place; absent = not_there items order is (bare x) i inside place })

pub ready_all : (x : Checked) (old new : List Table) → EachBecomes (IsReady x) old new → AllTables (HasRoomFor x) new
ready_all x old new each i u at = let (t, in_old, h) = each i u at in h.enough

pub roomier_all : (x : Checked) (old new : List Table) → EachBecomes (IsReady x) old new → EachBecomes IsRoomier old new
roomier_all x old new each i u at = let (t, in_old, h) = each i u at in (t, in_old, h.many.roomier)
