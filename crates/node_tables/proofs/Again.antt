-- A statement that was said already contradicts no segment, where it did not before.
use Rattle.std.proofs.Common.{◌≡◌, true, false, List, Option, Some, None, refl, sym, ap, subst, ◌∙◌}
use Rattle.std.specs.Prelude.{◌==◌}
use Rattle.std.specs.List.{Contains}
use Rattle.std.specs.Str.{bytes_eq}
use Rattle.std.proofs.lemmas.Bool.Decides.{Decides-eqb}
use Rattle.std.proofs.lemmas.Slice.Eq.{bytes_eq-Decides}
use Rattle.authenticators.specs.declared.authenticator.Authenticator.{Authenticator}
use Rattle.item_forms.specs.declared.forms.Fields.{Fields}
use Rattle.item_forms.specs.declared.forms.Fields.TheVariants as form
use Rattle.evidence_item.specs.Checking.{Checked}
use Rattle.kept_evidence.specs.Telling.{denies}
use Rattle.proofs.specs.Contradictions.{contradicts}
use Rattle.node_tables.specs.declared.exposure.ExposingPlaces.{ExposingPlaces}
use Rattle.node_tables.specs.declared.row.Row.{Row}
use Rattle.node_tables.specs.declared.span.Span.{Span}
use Rattle.node_tables.specs.declared.table.Table.{Table}
use Rattle.node_tables.specs.Rows.{stated_at}
use Rattle.node_tables.specs.Tables.{IsTold, IsUpToDate, denied_by, denies_at}
use Rattle.node_tables.specs.within.Bringing.{AreUndenied, again_at, again_by}
use Rattle.node_tables.proofs.Bools.{and_both}
use Rattle.node_tables.proofs.Told.{says_held}

-- statements of one number and one hash contradict the same
pub denies_alike : (a b : Authenticator) → b.seq ≡ a.seq → b.hash ≡ a.hash → (x : Fields) → denies b x ≡ denies a x
denies_alike a b seq hash (form.Auth c) = refl
denies_alike a b seq hash (form.Segment s) = ap (λ n. contradicts n b.hash s) seq ∙ ap (λ h. contradicts a.seq h s) hash
denies_alike a b seq hash (form.Audit c) = refl
denies_alike a b seq hash (form.Send m) = refl
denies_alike a b seq hash (form.Ack c) = refl

denied_alike : (a b : Authenticator) → b.seq ≡ a.seq → b.hash ≡ a.hash → (o : Option Checked) → denied_by o b ≡ denied_by o a
denied_alike a b seq hash None = refl
denied_alike a b seq hash (Some c) = denies_alike a b seq hash c.item.fields

-- what the test means
again_means : (o : Option Authenticator) (a : Authenticator) → again_by o a ≡ true → (b : Authenticator) × (o ≡ Some b) × (b.seq ≡ a.seq) × (b.hash ≡ a.hash)
again_means None a h = absurd cc
again_means (Some b) a h =
    let t = and_both (b.seq == a.seq) (bytes_eq b.hash a.hash) h in
    (b, refl, (Decides-eqb b.seq a.seq).0 t.0, (bytes_eq-Decides b.hash a.hash).0 t.1)

module _ (items : List Checked) (rows : List Row) (spans : List Span) (a : Authenticator) (quiet : AreUndenied items rows spans) where
  pub again_undenied : (r : Row) → Contains rows r → again_at items r a ≡ true → (p : Span) → Contains spans p → denies_at items a p.item ≡ false
  again_undenied r has again p in_p =
      let b = again_means (stated_at items r) a again in
      sym (denied_alike a b.0 b.2 b.3 _) ∙ quiet r b.0 p has b.1 in_p

-- what is told of a table that nothing exposes
quiet_by : (items : List Checked) (t : Table) (told : IsTold items t) (o : Option ExposingPlaces) → t.exposure ≡ o → o ≡ None → AreUndenied items t.rows.items t.spans.items
quiet_by items t told o at none r b p has is in_p =
    let quiet = subst (IsUpToDate items told.held t.spans.items) (at ∙ none) told.told in
    quiet.undenied b p (says_held items t.rows.items told.held told.rows b (r, has, is)) in_p

pub told_quiet : (items : List Checked) (t : Table) → IsTold items t → t.exposure ≡ None → AreUndenied items t.rows.items t.spans.items
told_quiet items t told none = quiet_by items t told t.exposure refl none
