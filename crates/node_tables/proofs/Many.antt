-- A store with the items of a list more, one after the other.
use Rattle.std.proofs.Common.{◌≡◌, ◌≤◌, Bool, true, false, List, [], ◌∷◌, ◌++◌, length, Result, Ok, Err, OnOk, refl, sym, ap, subst, ◌∙◌, ◌⊎◌, inl, inr, ⊎_elim, arith}
use Rattle.std.specs.Prelude.{◌↔◌}
use Rattle.std.specs.List.{Contains}
use Rattle.std.proofs.lemmas.List.Elements.{Contains-append_left, Contains-push, Contains-push_cases}
use Rattle.authenticators.proofs.AscendingLists.{cons_has, in_cons}
use Rattle.item_forms.specs.Pieces.{Piece}
use Rattle.evidence_item.specs.Checking.{Checked}
use Rattle.evidence_set.specs.ItemSets.{Items, Join, insert, set_of}
use Rattle.evidence_set.proofs.Joins.{as_expected, joins, least_upper_bounds}
use Rattle.kept_evidence.specs.Kept.{Keeps, is_kept}
use Rattle.kept_evidence.proofs.Bridge.{set_has}
use Rattle.evidence_set.proofs.SetLists.{sets_count}
use Rattle.kept_evidence.proofs.Places.{kept_decides}
use Rattle.kept_evidence.proofs.Taken.{set_grows}
use Rattle.node_tables.specs.declared.table.Table.{Table}
use Rattle.node_tables.specs.Rooms.{AreReady, HasRoomFor, HasRoomForAll, IsReleased, ItemRooms}
use Rattle.node_tables.specs.Steps.{AllTables, EachBecomes}
use Rattle.node_tables.proofs.Reserved.{released_rooms, room_for_all, room_for_first, room_for_rest}

-- what holds of a success holds where there is no error
pub on_ok : {A E : Type 0} (r : Result A E) (P : Type 0) (a : A) → OnOk r P → r ≡ Ok a → P
on_ok (Ok b) P a holds is = holds
on_ok (Err e) P a holds is = absurd (cc is)

pub never : (b : Bool) → (b ≡ true → ⊥) → false ≡ b
never true h = absurd (h refl)
never false h = refl

pub kept_so : (items : List Checked) (x : Piece) → Keeps items x → true ≡ is_kept items x
kept_so items x keeps = sym ((kept_decides items x).1 keeps)

pub kept_not : (items : List Checked) (x : Piece) → (Keeps items x → ⊥) → false ≡ is_kept items x
kept_not items x absent = never (is_kept items x) (λ h. absent ((kept_decides items x).0 h))

-- ---- rooms

pub all_ready : (xs : List Checked) (old new : List Table) → EachBecomes (AreReady xs) old new → AllTables (HasRoomForAll xs) new
all_ready xs old new each i u at = let (t, in_old, h) = each i u at in room_for_all xs t u h

pub first_ready : (x : Checked) (xs all : List Checked) (tables : List Table) → all ≡ x ∷ xs → AllTables (HasRoomForAll all) tables → AllTables (HasRoomFor x) tables
first_ready x xs all tables is ready i u at = room_for_first x xs u (subst (λ l. HasRoomForAll l u) is (ready i u at))

pub rest_ready : (x : Checked) (xs all : List Checked) (old new : List Table) → all ≡ x ∷ xs → AllTables (HasRoomForAll all) old → EachBecomes (ItemRooms x) old new → AllTables (HasRoomForAll xs) new
rest_ready x xs all old new is ready each i u at =
    let (t, in_old, h) = each i u at in
    room_for_rest x xs t u (subst (λ l. HasRoomForAll l t) is (ready i t in_old)) h

-- ---- the sets

Both : Items → List Checked → Items
Both s xs = Join s (set_of xs)

-- the first item of the list goes into the set
pub moved : (s : Items) (x : Checked) (xs : List Checked) → Join (insert s x.item) (set_of xs) ≡ Join s (set_of (x ∷ xs))
moved s x xs = least_upper_bounds.one (Join (insert s x.item) (set_of xs)) (Join s (set_of (x ∷ xs)))
    (λ y has. (joins.members s (set_of (x ∷ xs)) y).1 (⊎_elim
    (λ h. ⊎_elim
    (λ is. inr ((set_has (x ∷ xs) y).1 (x, cons_has x xs x (inr refl), sym is)))
    (λ old. inl old)
    ((as_expected.insert s x.item y).0 h))
    (λ h. let (c, in_xs, is) = (set_has xs y).0 h in inr ((set_has (x ∷ xs) y).1 (c, cons_has x xs c (inl in_xs), is)))
    ((joins.members (insert s x.item) (set_of xs) y).0 has)))
    (λ y has. (joins.members (insert s x.item) (set_of xs) y).1 (⊎_elim
    (λ h. inl ((as_expected.insert s x.item y).1 (inr h)))
    (λ h. let (c, in_more, is) = (set_has (x ∷ xs) y).0 h in ⊎_elim
    (λ old. inr ((set_has xs y).1 (c, old, is)))
    (λ (new : c ≡ x). inl ((as_expected.insert s x.item y).1 (inl (sym is ∙ ap (λ (k : Checked). k.item) new))))
    (in_cons x xs c in_more))
    ((joins.members s (set_of (x ∷ xs)) y).0 has)))

-- with no item more the set is as it was
pub joined_none : (items : List Checked) → Join (set_of items) (set_of []) ≡ set_of items
joined_none items = least_upper_bounds.one (Join (set_of items) (set_of [])) (set_of items)
    (λ y has. ⊎_elim (λ h. h) (λ h. let (c, in_none, is) = (set_has [] y).0 h in absurd (nothing c in_none)) ((joins.members (set_of items) (set_of []) y).0 has))
    (λ y has. (joins.members (set_of items) (set_of []) y).1 (inl has))
  where
    nothing : (c : Checked) → Contains [] c → ⊥
    nothing c (i, inside, is) = omega (arith, inside)

one_more : (old : List Checked) (x y : Checked) → Contains (old ++ x ∷ []) y ↔ (Contains old y ⊎ (y ≡ x))
one_more old x y = (
  λ has. ⊎_elim (λ h. inl h) (λ h. inr (sym h)) (Contains-push_cases old x y has),
  λ h. ⊎_elim (λ has. Contains-append_left old (x ∷ []) y has) (λ is. subst (Contains (old ++ x ∷ [])) (sym is) (Contains-push old x)) h,
)

-- an item more, and one that was there
pub one_grows : (old new : List Checked) (x : Checked) → new ≡ old ++ x ∷ [] → set_of new ≡ insert (set_of old) x.item
one_grows old new x is = ap set_of is ∙ set_grows old (old ++ x ∷ []) x (one_more old x)

pub held_stays : (old : List Checked) (x : Piece) → Keeps old x → set_of old ≡ insert (set_of old) x
held_stays old x keeps = sym (sets_count.held (set_of old) x ((set_has old x).1 keeps))

pub rooms_released : (x : Checked) (old new : List Table) → EachBecomes (IsReleased x) old new → EachBecomes (ItemRooms x) old new
rooms_released x old new each i u at = let (t, in_old, h) = each i u at in (t, in_old, released_rooms x t u h)

-- one step of the loop
pub step_joins : (s new : Items) (more rest : List Checked) (x : Checked) (all : Items) → more ≡ x ∷ rest → new ≡ insert s x.item → Join s (set_of more) ≡ all → Join new (set_of rest) ≡ all
step_joins s new more rest x all is grown before =
    ap (λ n. Join n (set_of rest)) grown ∙ moved s x rest ∙ ap (λ l. Join s (set_of l)) (sym is) ∙ before

pub at_end : (items more : List Checked) (all : Items) → more ≡ [] → Join (set_of items) (set_of more) ≡ all → set_of items ≡ all
at_end items more all is before = sym (joined_none items) ∙ ap (λ l. Join (set_of items) (set_of l)) (sym is) ∙ before

pub whole_first : (P : Checked → Type 0) (all rest : List Checked) (x : Checked) → all ≡ x ∷ rest → ((c : Checked) → Contains all c → P c) → P x
whole_first P all rest x is each = each x (subst (λ l. Contains l x) (sym is) (cons_has x rest x (inr refl)))

pub whole_behind : (P : Checked → Type 0) (all rest : List Checked) (x : Checked) → all ≡ x ∷ rest → ((c : Checked) → Contains all c → P c) → (c : Checked) → Contains rest c → P c
whole_behind P all rest x is each c has = each c (subst (λ l. Contains l c) (sym is) (cons_has x rest c (inl has)))

pub empty_end : (xs : List Checked) → length xs ≤ 0 → xs ≡ []
empty_end [] h = refl
empty_end (x ∷ xs) h = absurd (omega (arith, h))
