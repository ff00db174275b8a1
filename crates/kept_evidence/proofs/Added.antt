-- A store with the items of a list more.
use Rattle.std.proofs.Common.{◌≡◌, suc, Bool, true, false, not, List, [], ◌∷◌, length, map, refl, sym, ap, subst, ◌∙◌, ◌⊎◌, inl, inr, ⊎_elim}
use Rattle.std.specs.Prelude.{◌↔◌}
use Rattle.std.specs.declared.cmp.Ordering.TheVariants.{Less}
use Rattle.std.specs.List.{AllByRecursion, Contains, filter, flat_map}
use Rattle.std.specs.List.Sorted.{IsStrictlySortedBy}
use Rattle.std.proofs.lemmas.List.Kept.{IsStrictlySortedBy-filter}
use Rattle.authenticators.specs.declared.authenticator.Authenticator.{Authenticator}
use Rattle.authenticators.specs.StatementSet.{IsUnion}
use Rattle.authenticators.specs.Directory.{Listing}
use Rattle.replay_verifier.specs.Meaning.{Meaning}
use Rattle.item_forms.specs.Pieces.{Piece, by_bytes}
use Rattle.evidence_item.specs.Checking.{Checked}
use Rattle.evidence_set.specs.Held.{authenticators_of}
use Rattle.evidence_set.specs.ItemSets.{Has, Join, count, listed, pieces, set_of}
use Rattle.evidence_set.proofs.Joins.{joins, least_upper_bounds}
use Rattle.evidence_set.proofs.SetLists.{sets_are_lists}
use Rattle.kept_evidence.specs.Kept.{AreHeldOf, AreKept, IsAscending, IsStore, Keeps, by_item, is_kept}
use Rattle.kept_evidence.specs.Telling.{told_statements}
use Rattle.kept_evidence.proofs.Bridge.{set_has}
use Rattle.kept_evidence.proofs.Members.{of_some, passes, passing, some_of}
use Rattle.kept_evidence.proofs.Places.{kept_decides}
use Rattle.kept_evidence.proofs.ToldStatements.{told_is}

-- ---- the set

abbrev pub IsEither : List Checked → List Checked → List Checked → Type 0
IsEither old more new = (c : Checked) → Contains new c ↔ (Contains old c ⊎ Contains more c)

pub set_joins : (old more new : List Checked) → IsEither old more new → set_of new ≡ Join (set_of old) (set_of more)
set_joins old more new either = least_upper_bounds.one (set_of new) (Join (set_of old) (set_of more))
    (λ x has. let (c, in_new, is) = (set_has new x).0 has in
    (joins.members (set_of old) (set_of more) x).1 (⊎_elim (λ h. inl ((set_has old x).1 (c, h, is))) (λ h. inr ((set_has more x).1 (c, h, is))) ((either c).0 in_new)))
    (λ x has. (set_has new x).1 (⊎_elim
    (λ h. let (c, in_old, is) = (set_has old x).0 h in (c, (either c).1 (inl in_old), is))
    (λ h. let (c, in_more, is) = (set_has more x).0 h in (c, (either c).1 (inr in_more), is))
    ((joins.members (set_of old) (set_of more) x).0 has)))

-- ---- the store

abbrev pub told : Checked → List Authenticator
told c = told_statements c.item.fields c.findings

module _ {S : Type 0} (ds : Listing) (program : Meaning S) (old more new : List Checked) (either : IsEither old more new) (others : AreKept ds program more) where
  own : (c : Checked) → Contains more c → told c ≡ authenticators_of ds c.item.fields
  own c has = ap (told_statements c.item.fields) (others.whole c has).found ∙ told_is ds c.item.fields

  held_by : (held after : List Authenticator) → AreHeldOf ds old held → IsUnion held (flat_map told more) after → AreHeldOf ds new after
  held_by held after before union a = (
    λ has. ⊎_elim
        (λ h. let s = (before a).0 h in (s.0, (either s.0).1 (inl s.1), s.2))
        (λ h. let s = of_some told more a h in (s.0, (either s.0).1 (inr s.1), subst (λ (l : List Authenticator). Contains l a) (own s.0 s.1) s.2))
        ((union a).0 has),
    λ (c, has, stands). (union a).1 (⊎_elim
        (λ h. inl ((before a).1 (c, h, stands)))
        (λ h. inr (some_of told more a c h (subst (λ (l : List Authenticator). Contains l a) (sym (own c h)) stands)))
        ((either c).0 has)),
  )

  pub store_joins : (held after : List Authenticator) → IsStore ds program old held → IsAscending new → IsUnion held (flat_map told more) after → IsStore ds program new after
  store_joins held after before up union = record {
    items = record { ascending = up; whole = λ c has. ⊎_elim (before.items.whole c) (others.whole c) ((either c).0 has) };
    statements = held_by held after before.statements union;
  }

-- ---- counts

-- the items ascend as the list does
pub pieces_ascend : (kept : List Checked) → IsAscending kept → IsStrictlySortedBy by_bytes (pieces kept)
unfolding IsStrictlySortedBy
pieces_ascend [] up = tt
pieces_ascend (c ∷ kept) up = (below c kept up.0, pieces_ascend kept up.1)
  where
    below : (c : Checked) (kept : List Checked) → AllByRecursion (λ d. by_item c d ≡ Less) kept → AllByRecursion (λ x. by_bytes c.item x ≡ Less) (pieces kept)
    below c [] h = tt
    below c (d ∷ kept) h = (h.0, below c kept h.1)

length_map : {A B : Type 0} (f : A → B) (xs : List A) → length (map f xs) ≡ length xs
length_map f [] = refl
length_map f (x ∷ xs) = ap suc (length_map f xs)

-- The set of an ascending list has as many items as the list.
pub counted : (kept : List Checked) → IsAscending kept → count (set_of kept) ≡ length kept
counted kept up =
    sets_are_lists.size (set_of kept) ∙ ap length (sets_are_lists.same (pieces kept) (pieces_ascend kept up)) ∙ length_map (λ (c : Checked). c.item) kept

-- The items of an ascending list are what its set lists.
pub listed_is : (kept : List Checked) → IsAscending kept → listed (set_of kept) ≡ pieces kept
listed_is kept up = sets_are_lists.same (pieces kept) (pieces_ascend kept up)

-- ---- what is missing

-- of others those that are not kept
abbrev pub missing : List Checked → List Checked → List Checked
missing kept others = filter (λ (c : Checked). not (is_kept kept c.item)) others

turn_not : (b : Bool) → not b ≡ true → b ≡ true → ⊥
turn_not true h e = absurd cc
turn_not false h e = absurd cc

module _ {S : Type 0} (ds : Listing) (program : Meaning S) (kept others : List Checked) (whole : AreKept ds program others) where
  pub missing_kept : AreKept ds program (missing kept others)
  missing_kept = record {
    ascending = IsStrictlySortedBy-filter by_item (λ c. not (is_kept kept c.item)) others whole.ascending;
    whole = λ c has. whole.whole c (passing (λ (k : Checked). not (is_kept kept k.item)) others c has).0;
  }

pub missing_apart : (kept others : List Checked) (x : Piece) → Keeps kept x → Keeps (missing kept others) x → ⊥
missing_apart kept others x keeps (c, has, is) =
    let t = passing (λ (k : Checked). not (is_kept kept k.item)) others c has in
    turn_not (is_kept kept c.item) t.1 (subst (λ (y : Piece). is_kept kept y ≡ true) (sym is) ((kept_decides kept x).1 keeps))

-- Joining what is missing joins all.
pub missing_joins : (kept others : List Checked) → Join (set_of kept) (set_of (missing kept others)) ≡ Join (set_of kept) (set_of others)
missing_joins kept others = least_upper_bounds.one (Join (set_of kept) (set_of (missing kept others))) (Join (set_of kept) (set_of others))
    (λ x has. (joins.members (set_of kept) (set_of others) x).1 (⊎_elim (λ h. inl h)
    (λ h. let (c, in_missing, is) = (set_has (missing kept others) x).0 h in inr ((set_has others x).1 (c, (passing (λ (k : Checked). not (is_kept kept k.item)) others c in_missing).0, is)))
    ((joins.members (set_of kept) (set_of (missing kept others)) x).0 has)))
    (λ x has. (joins.members (set_of kept) (set_of (missing kept others)) x).1 (⊎_elim (λ h. inl h)
    (λ h. let (c, in_others, is) = (set_has others x).0 h in here_or_missing x c in_others is (is_kept kept c.item) refl)
    ((joins.members (set_of kept) (set_of others) x).0 has)))
  where
    here_or_missing : (x : Piece) (c : Checked) → Contains others c → c.item ≡ x → (b : Bool) → is_kept kept c.item ≡ b → Has (set_of kept) x ⊎ Has (set_of (missing kept others)) x
    here_or_missing x c has is true e = inl ((set_has kept x).1 (subst (Keeps kept) is ((kept_decides kept c.item).0 e)))
    here_or_missing x c has is false e = inr ((set_has (missing kept others) x).1 (c, passes (λ (k : Checked). not (is_kept kept k.item)) others c has (ap not e), is))
