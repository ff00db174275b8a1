-- The items of a group are the part of an ascending list between two places that binary search finds.
use Rattle.std.proofs.Common.{◌≡◌, ◌≤◌, ◌<◌, ◌-◌, ℕ, Bool, true, false, List, take, drop, max, ⊎_elim, refl, ap, subst, arith}
use Rattle.std.specs.List.{Contains}
use Rattle.std.specs.List.Sorted.{IsPartitionPoint, IsPartitionedBy}
use Rattle.std.specs.Ordering.{is_le, is_lt}
use Rattle.std.specs.declared.cmp.Ordering.{Ordering}
use Rattle.std.specs.declared.cmp.Ordering.TheVariants.{Less, Equal, Greater}
use Rattle.std.proofs.lemmas.Bool.{cases_lt}
use Rattle.authenticators.proofs.AscendingLists.{StandsBetween, in_part, parted}
use Rattle.item_forms.specs.Groups.{GroupsAscend, GroupsHold, ItemGroup, IsInGroup, group_cmp}
use Rattle.evidence_item.specs.Checking.{Checked}
use Rattle.kept_evidence.specs.Kept.{by_item, IsAscending, IsGroupOf}

-- ---- orderings as tests

only_less : (o : Ordering) → is_lt o ≡ true → o ≡ Less
only_less Less h = refl
only_less Equal h = absurd cc
only_less Greater h = absurd cc

only_greater : (o : Ordering) → is_le o ≡ false → o ≡ Greater
only_greater Less h = absurd cc
only_greater Equal h = absurd cc
only_greater Greater h = refl

neither : (o : Ordering) → is_lt o ≡ false → is_le o ≡ true → o ≡ Equal
neither Less h k = absurd cc
neither Equal h k = refl
neither Greater h k = absurd cc

-- a test that fails at the second of two fails to hold at the first
turned : (a b : Bool) → (a ≡ false → b ≡ false) → b ≡ true → a ≡ true
turned true b f h = refl
turned false b f h = absurd (cc (f refl, h))

module _ (g : ItemGroup) where
  abbrev pub before : Checked → Bool
  before c = is_lt (group_cmp g c.item.fields)

  abbrev pub up_to : Checked → Bool
  up_to c = is_le (group_cmp g c.item.fields)

  module _ (ascend : GroupsAscend) (kept : List Checked) (up : IsAscending kept) where
    pub before_parted : IsPartitionedBy before kept
    before_parted = parted by_item before kept up (λ x y lower h. ap is_lt (ascend.before g x.item y.item lower (only_less (group_cmp g y.item.fields) h)))

    pub up_to_parted : IsPartitionedBy up_to kept
    up_to_parted = parted by_item up_to kept up (λ x y lower h. turned (up_to x) (up_to y) (λ not. ap is_le (ascend.behind g x.item y.item lower (only_greater (group_cmp g x.item.fields) not))) h)

  module _ (hold : GroupsHold) (kept : List Checked) (i j m : ℕ) (from : IsPartitionPoint (λ y. before y ≡ true) (λ y. before y ≡ false) kept i) (to : IsPartitionPoint (λ y. up_to y ≡ true) (λ y. up_to y ≡ false) kept j)
      (is_max : m ≡ max j i) where
    inside : (c : Checked) → StandsBetween kept i m c → Contains kept c × IsInGroup g c.item.fields
    inside c (k, lo, hi, in_list, is) =
        let not_before : before c ≡ false = subst (λ y. before y ≡ false) is (from.1 k c lo in_list) in
        let k_below : k < j = ⊎_elim (λ lt. lt) (λ le. absurd (omega (arith, le, lo, hi, is_max))) (cases_lt k j) in
        let within : up_to c ≡ true = subst (λ y. up_to y ≡ true) is (to.0 k c (omega arith) k_below) in
        ((k, in_list, is), (hold g c.item.fields).0 (neither (group_cmp g c.item.fields) not_before within))

    found : (c : Checked) → Contains kept c × IsInGroup g c.item.fields → StandsBetween kept i m c
    found c ((k, in_list, is), member) =
        let equal : group_cmp g c.item.fields ≡ Equal = (hold g c.item.fields).1 member in
        let lo : i ≤ k = ⊎_elim (λ lt. absurd (cc (subst (λ y. before y ≡ true) is (from.0 k c (omega arith) lt), ap is_lt equal))) (λ le. le) (cases_lt k i) in
        let hi : k < j = ⊎_elim (λ lt. lt) (λ le. absurd (cc (subst (λ y. up_to y ≡ false) is (to.1 k c le in_list), ap is_le equal))) (cases_lt k j) in
        (k, lo, omega (arith, hi, is_max), in_list, is)

    pub part_is_group : IsGroupOf g kept (take (m - i) (drop i kept))
    part_is_group c = (λ has. inside c ((in_part kept i m c).0 has), λ h. (in_part kept i m c).1 (found c h))
