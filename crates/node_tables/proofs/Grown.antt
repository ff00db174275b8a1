-- Items by their places, with one more at the end.
use Rattle.std.proofs.Common.{◌≡◌, ℕ, zero, suc, Bool, true, false, List, [], ◌∷◌, ◌++◌, length, Option, Some, None, refl, sym, ap, subst, ◌∙◌, ◌⊎◌, inl, inr, ⊎_elim}
use Rattle.std.specs.Prelude.{◌↔◌, ◌||◌, slice_get, map}
use Rattle.std.specs.List.{Contains, list_any}
use Rattle.std.proofs.lemmas.Option.{same_Some}
use Rattle.authenticators.specs.declared.authenticator.Authenticator.{Authenticator}
use Rattle.evidence_item.specs.Checking.{Checked}
use Rattle.node_tables.specs.declared.exposure.ExposingPlaces.{ExposingPlaces}
use Rattle.node_tables.specs.declared.exposure.ExposingPlaces.TheVariants as exposure
use Rattle.node_tables.specs.declared.row.Row.{Row}
use Rattle.node_tables.specs.declared.span.Span.{Span}
use Rattle.node_tables.specs.declared.table.Table.{Table}
use Rattle.node_tables.specs.Receipts.{AscendBySending}
use Rattle.node_tables.specs.Rows.{AreRowsOf, stated_at, stated_by}
use Rattle.node_tables.specs.Tables.{AreSpans, IsSpan, IsTold, IsUpToDate, Names, Says, denied_by, denies_at, deviates_at, deviating}
use Rattle.node_tables.proofs.RowLists.{row_names}
use Rattle.node_tables.proofs.Told.{held_says}

-- ---- places

module _ {X : Type 0} where
  pub still_at : (xs : List X) (x : X) (i : ℕ) (y : X) → slice_get xs i ≡ Some y → slice_get (xs ++ x ∷ []) i ≡ Some y
  still_at [] x i y h = absurd cc
  still_at (z ∷ xs) x zero y h = h
  still_at (z ∷ xs) x (suc i) y h = still_at xs x i y h

  pub last_at : (xs : List X) (x : X) → slice_get (xs ++ x ∷ []) (length xs) ≡ Some x
  last_at [] x = refl
  last_at (z ∷ xs) x = last_at xs x

  pub at_cases : (xs : List X) (x : X) (i : ℕ) (y : X) → slice_get (xs ++ x ∷ []) i ≡ Some y → (slice_get xs i ≡ Some y) ⊎ ((i ≡ length xs) × (y ≡ x))
  at_cases [] x zero y h = inr (refl, sym (same_Some x y h))
  at_cases [] x (suc i) y h = absurd cc
  at_cases (z ∷ xs) x zero y h = inl h
  at_cases (z ∷ xs) x (suc i) y h = ⊎_elim (λ old. inl old) (λ (e : (i ≡ length xs) × (y ≡ x)). inr (ap suc e.0, e.1)) (at_cases xs x i y h)

  pub any_more : (p : X → Bool) (xs : List X) (x : X) → list_any p (xs ++ x ∷ []) ≡ (list_any p xs || p x)
  any_more p [] x = or_false (p x)
    where
      or_false : (b : Bool) → (b || false) ≡ (false || b)
      or_false true = refl
      or_false false = refl
  any_more p (z ∷ xs) x = ap (λ b. p z || b) (any_more p xs x) ∙ or_assoc (p z) (list_any p xs) (p x)
    where
      or_assoc : (a b c : Bool) → (a || (b || c)) ≡ ((a || b) || c)
      or_assoc true b c = refl
      or_assoc false b c = refl

abbrev rest_of : {Y : Type 0} → List Y → List Y
rest_of [] = []
rest_of (y ∷ ys) = ys

-- ---- what is told of a table stays so

module _ (items : List Checked) (x : Checked) where
  abbrev more : List Checked
  more = items ++ x ∷ []

  still_stated : (o p : Option Checked) (k : ℕ) (a : Authenticator) → ((c : Checked) → o ≡ Some c → p ≡ Some c) → stated_by o k ≡ Some a → stated_by p k ≡ Some a
  still_stated None p k a into h = absurd cc
  still_stated (Some c) p k a into h = ap (λ (q : Option Checked). stated_by q k) (into c refl) ∙ h

  pub stated_more : (r : Row) (a : Authenticator) → stated_at items r ≡ Some a → stated_at more r ≡ Some a
  stated_more r a h = still_stated (slice_get items r.item) (slice_get more r.item) r.position a (λ c at. still_at items x r.item c at) h

  map_still : (rows : List Row) (held : List Authenticator) → AreRowsOf items rows held → AreRowsOf more rows held
  map_still [] [] is = refl
  map_still [] (a ∷ held) is = absurd cc
  map_still (r ∷ rows) [] is = absurd cc
  map_still (r ∷ rows) (a ∷ held) is =
      let parts = cons_same (stated_at items r) (Some a) (map (stated_at items) rows) (map Some held) is in
      ap (λ (o : Option Authenticator). o ∷ map (stated_at more) rows) (stated_more r a parts.0) ∙ ap (λ (l : List (Option Authenticator)). Some a ∷ l) (map_still rows held parts.1)
    where
      cons_same : {Y : Type 0} (y z : Y) (ys zs : List Y) → y ∷ ys ≡ z ∷ zs → (y ≡ z) × (ys ≡ zs)
      cons_same y z ys zs e = (same_Some y z (ap (λ l. slice_get l 0) e), ap rest_of e)

  denies_more : (j : ℕ) (p : Span) → IsSpan items j p → (a : Authenticator) → denies_at more a p.item ≡ denies_at items a p.item
  denies_more j p is a = let (c, at, of) = is.segment in ap (λ (o : Option Checked). denied_by o a) (still_at items x p.item c at) ∙ sym (ap (λ (o : Option Checked). denied_by o a) at)

  deviates_more : (j : ℕ) (p : Span) → IsSpan items j p → deviates_at more p.item ≡ deviates_at items p.item
  deviates_more j p is = let (c, at, of) = is.segment in ap deviating (still_at items x p.item c at) ∙ sym (ap deviating at)

  span_more : (j : ℕ) (p : Span) → IsSpan items j p → IsSpan more j p
  span_more j p is = record {
    segment = let (c, at, of) = is.segment in (c, still_at items x p.item c at, of);
    fits = is.fits;
    reach = λ a h. is.reach a (sym (denies_more j p is a) ∙ h);
  }

  module _ (j : ℕ) (held : List Authenticator) (spans : List Span) (all : AreSpans items j spans) where
    names_more : (r : Row) (a : Authenticator) → Names items held r a → Names more held r a
    names_more r a h = (stated_more r a h.0, h.1)

    told_more : (e : Option ExposingPlaces) → IsUpToDate items held spans e → IsUpToDate more held spans e
    told_more None quiet = record {
      one_hash = quiet.one_hash;
      undenied = λ a p in_a in_p. denies_more j p (all p in_p) a ∙ quiet.undenied a p in_a in_p;
      conforming = λ p in_p. deviates_more j p (all p in_p) ∙ quiet.conforming p in_p;
    }
    told_more (Some (exposure.TwoHashes r q)) (a, b, one, other, clash) = (a, b, names_more r a one, names_more q b other, clash)
    told_more (Some (exposure.Denied r i)) (a, one, (p, has, at), h) = (a, names_more r a one, (p, has, at), subst (λ n. denies_at more a n ≡ true) at (denies_more j p (all p has) a ∙ subst (λ n. denies_at items a n ≡ true) (sym at) h))
    told_more (Some (exposure.Deviates i)) ((p, has, at), h) = ((p, has, at), subst (λ n. deviates_at more n ≡ true) at (deviates_more j p (all p has) ∙ subst (λ n. deviates_at items n ≡ true) (sym at) h))

  -- What was told of a table before the item came is told of it then.
  pub told_grown : (t u : Table) → u.node ≡ t.node → u.rows.items ≡ t.rows.items → u.receipts.sendings.items ≡ t.receipts.sendings.items → u.spans.items ≡ t.spans.items → u.exposure ≡ t.exposure → IsTold items t → IsTold more u
  told_grown t u node rows receipts spans exposure told = record {
    held = told.held;
    rows = subst (λ (l : List Row). AreRowsOf more l told.held) (sym rows) (map_still t.rows.items told.held told.rows);
    ascending = told.ascending;
    own = λ a has. told.own a has ∙ sym node;
    receipts = subst AscendBySending (sym receipts) told.receipts;
    spans = λ p has. subst (λ n. IsSpan more n p) (sym node) (span_more t.node p (told.spans p (subst (λ (l : List Span). Contains l p) spans has)));
    told = subst (λ (l : List Span). IsUpToDate more told.held l u.exposure) (sym spans) (subst (IsUpToDate more told.held t.spans.items) (sym exposure) (told_more t.node told.held t.spans.items told.spans t.exposure told.told));
  }

  -- Its rows say what they said.
  pub says_grown : (t : Table) → IsTold items t → (a : Authenticator) → Says more t.rows.items a ↔ Says items t.rows.items a
  says_grown t told a = (
    λ h. held_says items t.rows.items told.held told.rows h.0 a (row_names (stated_at more) t.rows.items told.held h.0 a (map_still t.rows.items told.held told.rows) h.1 h.2),
    λ h. (h.0, h.1, stated_more h.0 a h.2),
  )
