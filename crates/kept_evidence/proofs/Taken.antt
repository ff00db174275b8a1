-- A store with one item more.
use Rattle.std.proofs.Common.{◌≡◌, Bool, true, false, not, List, refl, sym, ap, subst, ◌∙◌, ◌⊎◌, inl, inr, ⊎_elim}
use Rattle.std.specs.Prelude.{◌↔◌}
use Rattle.std.specs.List.{Contains}
use Rattle.authenticators.specs.declared.authenticator.Authenticator.{Authenticator}
use Rattle.authenticators.specs.StatementSet.{IsUnion}
use Rattle.authenticators.specs.Directory.{Listing}
use Rattle.replay_verifier.specs.Meaning.{Meaning}
use Rattle.item_forms.specs.Pieces.{Piece}
use Rattle.evidence_item.specs.Checking.{Checked}
use Rattle.evidence_set.specs.Held.{authenticators_of}
use Rattle.evidence_set.specs.ItemSets.{contains, insert, set_of}
use Rattle.evidence_set.proofs.Joins.{as_expected, least_upper_bounds}
use Rattle.kept_evidence.specs.Kept.{AreHeldOf, IsAscending, IsStore, IsWhole, Keeps}
use Rattle.kept_evidence.specs.Telling.{told_statements}
use Rattle.kept_evidence.proofs.Bridge.{set_has}
use Rattle.kept_evidence.proofs.ToldStatements.{told_is}

-- The items are those of before, and one more.
abbrev pub IsOneMore : List Checked → Checked → List Checked → Type 0
IsOneMore old c new = (x : Checked) → Contains new x ↔ (Contains old x ⊎ (x ≡ c))

-- ---- the set

keeps_more : (old new : List Checked) (c : Checked) → IsOneMore old c new → (x : Piece) → Keeps new x → (x ≡ c.item) ⊎ Keeps old x
keeps_more old new c more x (d, has, is) = ⊎_elim (λ h. inr (d, h, is)) (λ same. inl (sym is ∙ ap (λ (k : Checked). k.item) same)) ((more d).0 has)

keeps_both : (old new : List Checked) (c : Checked) → IsOneMore old c new → (x : Piece) → (x ≡ c.item) ⊎ Keeps old x → Keeps new x
keeps_both old new c more x (inl is) = (c, (more c).1 (inr refl), sym is)
keeps_both old new c more x (inr (d, has, is)) = (d, (more d).1 (inl has), is)

pub set_grows : (old new : List Checked) (c : Checked) → IsOneMore old c new → set_of new ≡ insert (set_of old) c.item
set_grows old new c more = least_upper_bounds.one (set_of new) (insert (set_of old) c.item)
    (λ x has. (as_expected.insert (set_of old) c.item x).1 (⊎_elim (λ is. inl is) (λ k. inr ((set_has old x).1 k)) (keeps_more old new c more x ((set_has new x).0 has))))
    (λ x has. (set_has new x).1 (keeps_both old new c more x (⊎_elim (λ is. inl is) (λ h. inr ((set_has old x).0 h)) ((as_expected.insert (set_of old) c.item x).0 has))))

-- ---- what is told

of_true : (b : Bool) → b ≡ true → false ≡ not b
of_true true h = refl
of_true false h = absurd cc

of_never : (b : Bool) → (b ≡ true → ⊥) → true ≡ not b
of_never true h = absurd (h refl)
of_never false h = refl

pub not_new : (kept : List Checked) (x : Piece) → Keeps kept x → false ≡ not (contains (set_of kept) x)
not_new kept x keeps = of_true (contains (set_of kept) x) ((set_has kept x).1 keeps)

pub is_new : (kept : List Checked) (x : Piece) → (Keeps kept x → ⊥) → true ≡ not (contains (set_of kept) x)
is_new kept x none = of_never (contains (set_of kept) x) (λ has. none ((set_has kept x).0 has))

-- ---- the store

module _ {S : Type 0} (ds : Listing) (program : Meaning S) (old new : List Checked) (c : Checked) (more : IsOneMore old c new) (whole : IsWhole ds program c) where
  all_whole : ((d : Checked) → Contains old d → IsWhole ds program d) → (d : Checked) → Contains new d → IsWhole ds program d
  all_whole before d has = ⊎_elim (before d) (λ is. subst (IsWhole ds program) (sym is) whole) ((more d).0 has)

  own : told_statements c.item.fields c.findings ≡ authenticators_of ds c.item.fields
  own = ap (told_statements c.item.fields) whole.found ∙ told_is ds c.item.fields

  all_held : (held after : List Authenticator) → AreHeldOf ds old held → IsUnion held (told_statements c.item.fields c.findings) after → AreHeldOf ds new after
  all_held held after before union a = (
    λ has. ⊎_elim
        (λ h. let s = (before a).0 h in (s.0, (more s.0).1 (inl s.1), s.2))
        (λ h. (c, (more c).1 (inr refl), subst (λ (l : List Authenticator). Contains l a) own h))
        ((union a).0 has),
    λ (d, has, stands). (union a).1 (⊎_elim
        (λ h. inl ((before a).1 (d, h, stands)))
        (λ is. inr (subst (λ (l : List Authenticator). Contains l a) (sym own) (subst (λ (k : Checked). Contains (authenticators_of ds k.item.fields) a) is stands)))
        ((more d).0 has)),
  )

  pub store_grows : (held after : List Authenticator) → IsStore ds program old held → IsAscending new → IsUnion held (told_statements c.item.fields c.findings) after → IsStore ds program new after
  store_grows held after before up union = record {
    items = record { ascending = up; whole = all_whole before.items.whole };
    statements = all_held held after before.statements union;
  }
