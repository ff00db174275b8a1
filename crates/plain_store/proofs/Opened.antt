-- The challenges that are open, as a list: the audit challenges, and behind them the send challenges.
use Rattle.std.proofs.Common.{◌≡◌, ℕ, zero, suc, Bool, List, [], ◌∷◌, ◌++◌, map, get_or, refl, sym, ap, subst, ◌∙◌, ◌⊎◌, inl, inr, arith}
use Rattle.std.specs.Prelude.{◌↔◌, IsTrue}
use Rattle.std.specs.List.{All, Contains, filter}
use Rattle.std.specs.List.Sorted.{IsStrictlySortedBy}
use Rattle.std.specs.Ordering.{ordering_reverse}
use Rattle.std.specs.declared.cmp.Ordering.{Ordering}
use Rattle.std.specs.declared.cmp.Ordering.TheVariants.{Less, Equal, Greater}
use Rattle.std.proofs.lemmas.Bool.Decides.{Decides-eqb}
use Rattle.std.proofs.lemmas.List.{map-append}
use Rattle.std.proofs.lemmas.List.Elements.{All-append, All-from_recursion, Contains-append_cases, Contains-append_left, Contains-append_right, Contains-get_or, recursion_from_All}
use Rattle.std.proofs.lemmas.List.Kept.{IsStrictlySortedBy-filter}
use Rattle.authenticators.specs.Directory.{Listing}
use Rattle.item_forms.specs.declared.forms.Fields.{Fields}
use Rattle.item_forms.specs.declared.forms.Fields.TheVariants as form
use Rattle.item_forms.specs.Groups.{AuditChallenges, IsInGroup, ItemGroup, SendChallenges, group_cmp}
use Rattle.item_forms.specs.Pieces.{Piece, by_bytes}
use Rattle.item_forms.proofs.GroupOrders.{groups_ascend, groups_hold}
use Rattle.item_forms.proofs.ItemOrders.{by_bytes_exact, by_bytes_total}
use Rattle.evidence_item.specs.Checking.{Checked}
use Rattle.evidence_set.specs.Challenges.{is_against}
use Rattle.evidence_set.specs.Indications.{IsUnanswered}
use Rattle.evidence_set.specs.ItemSets.{Has, none, pieces, set_of}
use Rattle.evidence_set.proofs.Joins.{as_expected}
use Rattle.evidence_set.proofs.SetLists.{sets_are_lists}
use Rattle.kept_evidence.specs.Kept.{IsAscending, IsGroupOf, Keeps}
use Rattle.kept_evidence.specs.Telling.{is_unanswered}
use Rattle.kept_evidence.proofs.Added.{pieces_ascend}
use Rattle.kept_evidence.proofs.Bridge.{set_has}
use Rattle.kept_evidence.proofs.Indicated.{AreFound, unanswered_decides}
use Rattle.kept_evidence.proofs.Members.{passes, passing}

-- ---- one list behind the other

-- Two ascending lists ascend, where each element of the first is below each of the second.
sorted-append : {K : Type 0} (R : K → K → Ordering) (xs ys : List K) → IsStrictlySortedBy R xs → IsStrictlySortedBy R ys → ((x y : K) → Contains xs x → Contains ys y → R x y ≡ Less) → IsStrictlySortedBy R (xs ++ ys)
unfolding IsStrictlySortedBy
sorted-append R [] ys one other below = other
sorted-append {K} R (x ∷ xs) ys one other below =
    let P : K → Type 0 = λ y. R x y ≡ Less in
    let with_xs : All P xs = All-from_recursion P xs one.0 in
    let with_ys : All P ys = λ k d inside. below x (get_or ys k d) (zero, omega arith, refl) (Contains-get_or ys k d inside) in (
      recursion_from_All P (xs ++ ys) (All-append P xs ys with_xs with_ys),
      sorted-append R xs ys one.1 other (λ a b in_xs in_ys. below a b (suc in_xs.0, omega (arith, in_xs.1), in_xs.2) in_ys),
    )

-- What a map makes of two lists, one behind the other.
pub map_behind : {A B : Type 0} (f : A → B) (xs ys all : List A) (us vs : List B) → map f xs ≡ us → map f ys ≡ vs → all ≡ xs ++ ys → map f all ≡ us ++ vs
map_behind f xs ys all us vs one other is = ap (map f) is ∙ map-append f xs ys ∙ ap (λ l. l ++ map f ys) one ∙ ap (λ l. us ++ l) other

-- ---- audit challenges before send challenges

audit_before : (j : ℕ) (x : Fields) → IsInGroup (AuditChallenges j) x → group_cmp SendChallenges x ≡ Less
audit_before j (form.Auth a) h = absurd h
audit_before j (form.Segment s) h = absurd h
audit_before j (form.Audit c) h = refl
audit_before j (form.Send m) h = absurd h
audit_before j (form.Ack a) h = absurd h

challenges_ascend : (j : ℕ) (x y : Piece) → IsInGroup (AuditChallenges j) x.fields → IsInGroup SendChallenges y.fields → by_bytes x y ≡ Less
challenges_ascend j x y audit send = go (by_bytes x y) refl
  where
    before : group_cmp SendChallenges x.fields ≡ Less
    before = audit_before j x.fields audit

    within : group_cmp SendChallenges y.fields ≡ Equal
    within = (groups_hold SendChallenges y.fields).1 send

    go : (o : Ordering) → by_bytes x y ≡ o → by_bytes x y ≡ Less
    go Less e = e
    go Equal e = absurd (cc (before, within, ap (λ (z : Piece). group_cmp SendChallenges z.fields) (by_bytes_exact x y e)))
    go Greater e = absurd (cc (within, groups_ascend.before SendChallenges y x (by_bytes_total.antisymm y x ∙ ap ordering_reverse e) before))

-- A challenge against the node is an audit challenge of it or a send challenge.
challenges_of : (j : ℕ) (x : Fields) → IsTrue (is_against j x) → IsInGroup (AuditChallenges j) x ⊎ IsInGroup SendChallenges x
challenges_of j (form.Auth a) h = absurd cc
challenges_of j (form.Segment s) h = absurd cc
challenges_of j (form.Audit c) h = inl ((Decides-eqb c.node j).0 h)
challenges_of j (form.Send m) h = inr tt
challenges_of j (form.Ack a) h = absurd cc

-- ---- the open ones

-- the items of a list are those that it keeps
in_list : (kept : List Checked) (x : Piece) → Contains (pieces kept) x ↔ Keeps kept x
in_list kept x = (
  λ listed. (set_has kept x).0 ((sets_are_lists.together none (pieces kept) x).1 (inr listed)),
  λ keeps. elim ((sets_are_lists.together none (pieces kept) x).0 ((set_has kept x).1 keeps)) [ inl in_empty ↦ absurd (as_expected.none x in_empty) | inr listed ↦ listed ],
)

module _ (ds : Listing) (kept : List Checked) (j : ℕ) (audits sends : List Checked) (audit : IsGroupOf (AuditChallenges j) kept audits) (send : IsGroupOf SendChallenges kept sends) where
  abbrev is_open : Piece → Bool
  is_open x = is_unanswered kept j x.fields

  abbrev IsOpen : Piece → Type 0
  IsOpen x = Has (set_of kept) x × IsUnanswered ds (set_of kept) j x.fields

  abbrev open_ones : List Piece
  open_ones = filter is_open (pieces audits) ++ filter is_open (pieces sends)

  module _ (all : AreFound ds kept) where
    of_group : (g : ItemGroup) (part : List Checked) → IsGroupOf g kept part → (x : Piece) → Contains (filter is_open (pieces part)) x → IsOpen x
    of_group g part group x has =
        let t = passing is_open (pieces part) x has in
        let (c, in_part, is) = (in_list part x).0 t.0 in
        ((set_has kept x).1 (c, ((group c).0 in_part).0, is), (unanswered_decides ds kept j x.fields all).0 t.1)

    in_group : (g : ItemGroup) (part : List Checked) → IsGroupOf g kept part → (x : Piece) → IsOpen x → IsInGroup g x.fields → Contains (filter is_open (pieces part)) x
    in_group g part group x (has, unanswered) member =
        let (c, in_kept, is) = (set_has kept x).0 has in
        let in_part : Contains part c = (group c).1 (in_kept, subst (λ (y : Piece). IsInGroup g y.fields) (sym is) member) in
        passes is_open (pieces part) x ((in_list part x).1 (c, in_part, is)) ((unanswered_decides ds kept j x.fields all).1 unanswered)

    -- They are the items of the set that no item of it answers.
    pub open_members : (found : List Piece) → found ≡ open_ones → (x : Piece) → Contains found x ↔ IsOpen x
    open_members found is x = subst (λ (l : List Piece). Contains l x ↔ IsOpen x) (sym is) (
      λ has. elim (Contains-append_cases (filter is_open (pieces audits)) (filter is_open (pieces sends)) x has) [
        | inl one ↦ of_group (AuditChallenges j) audits audit x one
        | inr other ↦ of_group SendChallenges sends send x other
      ],
      λ opens. elim (challenges_of j x.fields opens.1.against) [
        | inl one ↦ Contains-append_left (filter is_open (pieces audits)) (filter is_open (pieces sends)) x (in_group (AuditChallenges j) audits audit x opens one)
        | inr other ↦ Contains-append_right (filter is_open (pieces audits)) (filter is_open (pieces sends)) x (in_group SendChallenges sends send x opens other)
      ],
    )

  -- an item that was found among those of a group is of the group
  is_of_group : (g : ItemGroup) (part : List Checked) → IsGroupOf g kept part → (x : Piece) → Contains (filter is_open (pieces part)) x → IsInGroup g x.fields
  is_of_group g part group x has =
      let (c, in_part, is) = (in_list part x).0 (passing is_open (pieces part) x has).0 in
      subst (λ (y : Piece). IsInGroup g y.fields) is ((group c).0 in_part).1

  -- They ascend.
  pub open_ascend : IsAscending audits → IsAscending sends → (found : List Piece) → found ≡ open_ones → IsStrictlySortedBy by_bytes found
  open_ascend up_audits up_sends found is = subst (IsStrictlySortedBy by_bytes) (sym is) (sorted-append by_bytes (filter is_open (pieces audits)) (filter is_open (pieces sends))
      (IsStrictlySortedBy-filter by_bytes is_open (pieces audits) (pieces_ascend audits up_audits))
      (IsStrictlySortedBy-filter by_bytes is_open (pieces sends) (pieces_ascend sends up_sends))
      (λ x y one other. challenges_ascend j x y (is_of_group (AuditChallenges j) audits audit x one) (is_of_group SendChallenges sends send y other)))
