-- Sets of items as lists.
use Rattle.std.proofs.Common.{◌≡◌, ◌∙◌, Bool, true, List, length, map, sym, ap, subst}
use Rattle.std.specs.Prelude.{◌↔◌}
use Rattle.std.specs.Cmp.{IsEquivalence, Equal-is, eq_by_cmp_equiv}
use Rattle.std.specs.List.{Contains, dedup, filter}
use Rattle.std.specs.List.Sorted.{IsPermutation, IsStrictlySortedBy}
use Rattle.std.specs.Ordering.{eq_by_cmp}
use Rattle.std.proofs.lemmas.List.Kept.{Contains-dedup, Contains-from_dedup, IsStrictlySortedBy-filter}
use Rattle.std.proofs.lemmas.List.Sorted.{Contains-permutation, IsPermutation-sym}
use Rattle.item_forms.specs.Pieces.{Piece, by_bytes}
use Rattle.item_forms.specs.Spelling.{spelling}
use Rattle.item_forms.proofs.ItemOrders.{by_bytes_exact, by_bytes_total}
use Rattle.containers.specs.Container.{container_text}
use Rattle.evidence.specs.Exports.{export_of, magic}
use Rattle.evidence_set.specs.ItemSets.{SetsAreLists, count, insert_all, listed, none}
use Rattle.localities.specs.Parts.{part_of}

-- The items that are kept are those that the part of their set lists.
part_listed : SetsAreLists → (keep : Piece → Bool) (xs kept : List Piece) → IsStrictlySortedBy by_bytes xs → kept ≡ filter keep xs → kept ≡ listed (part_of keep (insert_all none xs))
part_listed lists keep xs kept sorted is =
    let whole : listed (insert_all none xs) ≡ xs = lists.same xs sorted in
    let part : listed (insert_all none (filter keep xs)) ≡ filter keep xs = lists.same (filter keep xs) (IsStrictlySortedBy-filter by_bytes keep xs sorted) in
    is ∙ sym part ∙ ap (λ (ys : List Piece). listed (insert_all none (filter keep ys))) (sym whole)

-- Their text is that of the part, and so many are they.
pub part_written : SetsAreLists → (keep : Piece → Bool) (xs kept : List Piece) → IsStrictlySortedBy by_bytes xs → kept ≡ filter keep xs
    → container_text magic (map (λ (x : Piece). spelling x.fields) kept) ≡ export_of (part_of keep (insert_all none xs))
part_written lists keep xs kept sorted is =
    ap (λ (ys : List Piece). container_text magic (map (λ (x : Piece). spelling x.fields) ys)) (part_listed lists keep xs kept sorted is)

pub part_counted : SetsAreLists → (keep : Piece → Bool) (xs kept : List Piece) → IsStrictlySortedBy by_bytes xs → kept ≡ filter keep xs → length kept ≡ count (part_of keep (insert_all none xs))
part_counted lists keep xs kept sorted is = ap length (part_listed lists keep xs kept sorted is) ∙ sym (lists.size (part_of keep (insert_all none xs)))

-- Items in another order, without doubles.
module _ (E : Piece → Piece → Bool) (ties : (x y : Piece) → E x y ≡ eq_by_cmp by_bytes x y) where
  same : (x y : Piece) → E x y ≡ true → x ≡ y
  same x y e = by_bytes_exact x y ((Equal-is (by_bytes x y)).0 (sym (ties x y) ∙ e))

  equivalence : IsEquivalence E
  equivalence = subst IsEquivalence (λ i x y. sym (ties x y) i) (eq_by_cmp_equiv by_bytes_total)

  pub members_once : (items moved : List Piece) → IsPermutation items moved → (x : Piece) → Contains (dedup E moved) x ↔ Contains items x
  members_once items moved is x = (
    λ has. Contains-permutation moved items x (IsPermutation-sym items moved is) (Contains-from_dedup E moved x has),
    λ has. Contains-dedup equivalence same moved x (Contains-permutation items moved x is has),
  )
