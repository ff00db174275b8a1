-- Digests that are kept, and items that stand where they stood.
use Rattle.std.proofs.Common.{◌≡◌, ℕ, List, [], ◌∷◌, ◌++◌, ◌⊎◌, Option, Some, None, length, option_map, refl, sym, ap, subst, ⊎_elim, ◌∙◌}
use Rattle.std.specs.Prelude.{IfSome, slice_get}
use Rattle.evidence_item.specs.Checking.{Checked}
use Rattle.item_digests.specs.Digests.{digest_of}
use Rattle.evidence_set.specs.ItemSets.{listed, set_of}
use Rattle.node_tables.specs.Places.{IsOrder}
use Rattle.node_tables.proofs.Grown.{at_cases, still_at}
use Rattle.indexed_store.specs.within.Digested.{AreDigests, StandStill, digest_in}
use Rattle.indexed_store.proofs.Listed.{at_place, item_is}

-- ---- items that stand where they stood

pub same_still : (old new : List Checked) → new ≡ old → StandStill old new
same_still old new is i c at = ap (λ (l : List Checked). slice_get l i) is ∙ at

pub pushed_still : (old new : List Checked) (x : Checked) → new ≡ old ++ x ∷ [] → StandStill old new
pushed_still old new x is i c at = ap (λ (l : List Checked). slice_get l i) is ∙ still_at old x i c at

pub then_still : (old now new : List Checked) → StandStill old now → StandStill now new → StandStill old new
then_still old now new first second i c at = second i c (first i c at)

-- ---- their digests

stays : (o n : Option Checked) (d : List ℕ) → ((c : Checked) → o ≡ Some c → n ≡ Some c) → digest_in o ≡ Some d → digest_in n ≡ Some d
stays None n d still h = absurd cc
stays (Some c) n d still h = ap digest_in (still c refl) ∙ h

pub stay_digests : (ds : List (List ℕ)) (old new : List Checked) → StandStill old new → AreDigests ds old → AreDigests ds new
stay_digests ds old new still made i d at = stays (slice_get old i) (slice_get new i) d (still i) (made i d at)

-- no digest
none : (items : List Checked) → AreDigests [] items
none items i d at = absurd cc

pub none_made : (ds : List (List ℕ)) (items : List Checked) → ds ≡ [] → AreDigests ds items
none_made ds items is = subst (λ (l : List (List ℕ)). AreDigests l items) (sym is) (none items)

-- one digest more
pub one_made : (ds : List (List ℕ)) (items : List Checked) (x : Checked) (d : List ℕ) → slice_get items (length ds) ≡ Some x → d ≡ digest_of x.item → AreDigests ds items → AreDigests (ds ++ d ∷ []) items
one_made ds items x d there is made i e at =
    ⊎_elim (λ (old : slice_get ds i ≡ Some e). made i e old)
    (λ (last : (i ≡ length ds) × (e ≡ d)). ap (λ (n : ℕ). digest_in (slice_get items n)) last.0 ∙ ap digest_in there ∙ ap Some (sym is ∙ sym last.1))
    (at_cases ds d i e at)

-- ---- the digest of the item at a place of the order

digest_by : (o : Option Checked) → option_map digest_of (option_map (λ (c : Checked). c.item) o) ≡ digest_in o
digest_by None = refl
digest_by (Some c) = refl

pub made_is : (ds : List (List ℕ)) (items : List Checked) (order : List ℕ) (is : IsOrder items order) (n i : ℕ) (o : Option (List ℕ)) → AreDigests ds items → slice_get order n ≡ Some i → o ≡ slice_get ds i
    → IfSome o (λ (d : List ℕ). option_map digest_of (slice_get (listed (set_of items)) n) ≡ Some d)
made_is ds items order is n i None made at there = tt
made_is ds items order is n i (Some d) made at there =
    ap (option_map digest_of) (sym (item_is items order is n (slice_get items i) (at_place items order is n i (slice_get items i) at refl)))
    ∙ digest_by (slice_get items i) ∙ made i d (sym there)
