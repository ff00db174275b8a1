-- What is kept in a list is in the set of its items.
use Rattle.std.proofs.Common.{◌≡◌, ℕ, List, [], ◌∷◌, refl, sym, ap, subst, ◌∙◌, inl, inr}
use Rattle.std.specs.Prelude.{◌↔◌}
use Rattle.std.specs.List.{Contains}
use Rattle.authenticators.specs.declared.authenticator.Authenticator.{Authenticator}
use Rattle.authenticators.specs.Directory.{Listing}
use Rattle.item_forms.specs.declared.forms.Fields.{Fields}
use Rattle.item_forms.specs.Pieces.{Piece}
use Rattle.evidence_item.specs.Checking.{Checked}
use Rattle.evidence_set.specs.Held.{Holds, IsHeld}
use Rattle.evidence_set.specs.ItemSets.{Has, SomeItem, none, pieces, set_of}
use Rattle.evidence_set.proofs.Joins.{as_expected}
use Rattle.evidence_set.proofs.SetLists.{sets_are_lists}
use Rattle.evidence_set.proofs.WhatIsHeld.{lists_what_is_held}
use Rattle.kept_evidence.specs.Kept.{AreHeldOf, Keeps, SomeKept}
use Rattle.kept_evidence.proofs.Members.{first, here_or_later, later, none_here}

-- ---- items

in_pieces : (kept : List Checked) (x : Piece) → Keeps kept x → Contains (pieces kept) x
in_pieces [] x keeps = absurd (none_here keeps.0 keeps.1)
in_pieces (d ∷ kept) x keeps = elim (here_or_later d kept keeps.0 keeps.1) [
  | inl is ↦ subst (Contains (pieces (d ∷ kept))) (ap (λ (c : Checked). c.item) is ∙ keeps.2) (first d.item (pieces kept))
  | inr more ↦ later d.item (pieces kept) x (in_pieces kept x (keeps.0, more, keeps.2))
]

kept_in : (kept : List Checked) (x : Piece) → Contains (pieces kept) x → Keeps kept x
kept_in [] x has = absurd (none_here x has)
kept_in (d ∷ kept) x has = elim (here_or_later d.item (pieces kept) x has) [
  | inl is ↦ (d, first d kept, is)
  | inr more ↦ let keeps = kept_in kept x more in (keeps.0, later d kept keeps.0 keeps.1, keeps.2)
]

-- The set has just the items that are kept.
pub set_has : (kept : List Checked) (x : Piece) → Has (set_of kept) x ↔ Keeps kept x
set_has kept x = (
  λ has. elim ((sets_are_lists.together none (pieces kept) x).0 has) [ inl in_empty ↦ absurd (as_expected.none x in_empty) | inr listed ↦ kept_in kept x listed ],
  λ keeps. (sets_are_lists.together none (pieces kept) x).1 (inr (in_pieces kept x keeps)),
)

-- Some item of the set is of a kind just where some item that is kept is.
pub some_item : (kept : List Checked) (P : Fields → Type 0) → SomeItem (set_of kept) P ↔ SomeKept kept P
some_item kept P = (
  λ h.
      let keeps = (set_has kept h.0).0 h.1 in
      (keeps.0, keeps.1, subst (λ (x : Piece). P x.fields) (sym keeps.2) h.2),
  λ h. (h.0.item, (set_has kept h.0.item).1 (h.0, h.1, refl), h.2),
)

-- ---- statements

-- A statement of node j is held by the set just where it is among those of the list.
pub is_held : (ds : Listing) (kept : List Checked) (held : List Authenticator) (j : ℕ) (a : Authenticator) → AreHeldOf ds kept held
    → IsHeld ds (set_of kept) j a ↔ (Contains held a × (a.node ≡ j))
is_held ds kept held j a all = (
  λ h.
      let some = (some_item kept (λ x. Holds ds x a)).0 h.stands in
      ((all a).1 (some.0, some.1, (lists_what_is_held ds some.0.item.fields a).1 some.2), h.of),
  λ h.
      let some = (all a).0 h.0 in
      record { of = h.1; stands = (some_item kept (λ x. Holds ds x a)).1 (some.0, some.1, (lists_what_is_held ds some.0.item.fields a).0 some.2) },
)
