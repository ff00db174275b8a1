-- Places in a list of checked items that ascends.
use Rattle.std.proofs.Common.{◌≡◌, ℕ, true, List, length, get_or, Result, Ok, Err, IfOk, ap, sym, subst, ◌∙◌}
use denote.Ref.{Bor}
use denote.Param.Members.{Mut}
use Rattle.std.specs.Prelude.{IfErr}
use Rattle.std.specs.Fn.{Called, ComputesKey}
use Rattle.std.specs.declared.cmp.Ordering.{Ordering}
use Rattle.std.proofs.lemmas.Fn.{always_returns_same}
use Rattle.std.specs.List.{AllWithin}
use Rattle.std.specs.Bool.{Decides}
use Rattle.std.specs.Cmp.{Equal-is}
use Rattle.std.specs.Ordering.{is_eq, ordering_index}
use Rattle.std.proofs.lemmas.Cmp.{tied_itself}
use Rattle.std.proofs.lemmas.List.Folds.{Any-from_list_any, list_any-from_Any}
use Rattle.std.specs.declared.cmp.Ordering.TheVariants.{Less, Greater}
use Rattle.std.specs.List.Sorted.{IsBinarySearchResult, IsNonDecreasingBy, IsSearchInRange}
use Rattle.std.proofs.lemmas.List.Elements.{Contains-get_or}
use Rattle.item_forms.specs.Pieces.{Piece, by_bytes}
use Rattle.item_forms.proofs.ItemOrders.{by_bytes_exact, by_bytes_total}
use Rattle.authenticators.proofs.AscendingLists.{absent, searchable}
use Rattle.evidence_item.specs.Checking.{Checked}
use Rattle.kept_evidence.specs.Kept.{by_item, IsAscending, IsPlaceOf, Keeps, is_kept}
use Rattle.kept_evidence.proofs.Orders.{bare, by_item_total}

-- The comparisons with an item rise, as a binary search asks.
pub rising : (kept : List Checked) (x : Piece) → IsAscending kept → IsNonDecreasingBy (λ c. ordering_index (by_bytes c.item x)) kept
rising kept x up = searchable by_item by_item_total kept (bare x) up

-- From the clause `position` of `binary_search_by`, where each call gives the comparison of the element.
pub searched : {X F : Type 0} (ord : X → Ordering) {g : Mut F (Bor X × Unit {0}) Ordering} {f : F} (xs : List X) (r : Result ℕ ℕ)
    → ((o : X → Ordering) → ComputesKey g o f → IsBinarySearchResult o xs r)
    → ((a : Bor X × Unit {0}) (s : Ordering) (f' : F) → Called g f a s f' → (s ≡ ord a.0.now) × (f' ≡ f))
    → IsBinarySearchResult ord xs r
searched ord {g = g} {f = f} xs r clause h = clause ord (always_returns_same g (λ a s. s ≡ ord a.0.now) f h)

-- What the search finds has the item.
pub there_from : (kept : List Checked) (x : Piece) (r : Result ℕ ℕ) → IsSearchInRange r (length kept) → IsBinarySearchResult (λ (c : Checked). by_bytes c.item x) kept r → IfOk r (λ i. Keeps kept x)
there_from kept x (Ok i) inside equal =
    let here = get_or kept i (bare x) in
    (here, Contains-get_or kept i (bare x) inside, by_bytes_exact here.item x (equal (bare x)))
there_from kept x (Err i) inside place = tt

-- What it does not find has a place.
pub place_from : (kept : List Checked) (x : Piece) (r : Result ℕ ℕ) → IsAscending kept → IsSearchInRange r (length kept) → IsBinarySearchResult (λ (c : Checked). by_bytes c.item x) kept r
    → IfErr r (λ i. IsPlaceOf x kept i)
place_from kept x (Ok i) up inside equal = tt
place_from kept x (Err i) up inside place =
    let parts = place (rising kept x up) in
    record { inside = inside; before = parts.0; behind = parts.1 }

-- What has a place is not kept.
pub not_kept : (kept : List Checked) (x : Piece) (i : ℕ) → IsPlaceOf x kept i → Keeps kept x → ⊥
not_kept kept x i place (c, has, is) =
    let before : AllWithin (λ b. by_item b c ≡ Less) kept 0 i = subst (λ (y : Piece). AllWithin (λ b. by_bytes b.item y ≡ Less) kept 0 i) (sym is) place.before in
    let behind : AllWithin (λ b. by_item b c ≡ Greater) kept i (length kept) = subst (λ (y : Piece). AllWithin (λ b. by_bytes b.item y ≡ Greater) kept i (length kept)) (sym is) place.behind in
    absent by_item by_item_total kept c i before behind has

-- The test tells whether an item is kept.
pub kept_decides : (kept : List Checked) (x : Piece) → Decides (is_kept kept x) (Keeps kept x)
kept_decides kept x = (
  λ h.
      let any = Any-from_list_any (λ (c : Checked). is_eq (by_bytes c.item x)) kept h in
      (any.1, (any.0, any.2, any.3), by_bytes_exact any.1.item x ((Equal-is (by_bytes any.1.item x)).0 any.4)),
  λ (c, has, is).
      let equal : is_eq (by_bytes c.item x) ≡ true = ap (λ (y : Piece). is_eq (by_bytes y x)) is ∙ (Equal-is (by_bytes x x)).1 (tied_itself by_bytes_total x) in
      list_any-from_Any (λ (k : Checked). is_eq (by_bytes k.item x)) kept (has.0, c, has.1, has.2, equal),
)
