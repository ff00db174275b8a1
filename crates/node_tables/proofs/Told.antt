-- A statement more in the table of its node.
use Rattle.std.proofs.Common.{◌≡◌, ◌≢◌, ℕ, ◌-◌, ◌<◌, ◌≤◌, Bool, true, false, not, List, length, get_or, Option, Some, None, refl, sym, ap, subst, ◌∙◌, inl, inr, ⊎_elim, arith}
use Rattle.std.specs.Prelude.{◌+◌, ◌&&◌, ◌==◌, Ok, Err}
use Rattle.std.specs.List.{Contains, insert}
use Rattle.std.specs.Str.{bytes_eq}
use Rattle.std.specs.List.Sorted.{IsBinarySearchResult}
use Rattle.std.proofs.lemmas.Bool.Decides.{Decides-eqb}
use Rattle.std.proofs.lemmas.Slice.Eq.{bytes_eq-Decides}
use Rattle.std.proofs.lemmas.List.Elements.{Contains-get_or}
use Rattle.std.proofs.lemmas.Option.{same_Some}
use Rattle.authenticators.specs.declared.authenticator.Authenticator.{Authenticator}
use Rattle.authenticators.specs.StatementSet.{by_fields, IsAscending}
use Rattle.authenticators.proofs.AscendingLists.{members-insert, sorted-insert}
use Rattle.authenticators.proofs.StatementSets.{by_fields_total, equal_same}
use Rattle.evidence_item.specs.Checking.{Checked}
use Rattle.node_tables.specs.declared.exposure.ExposingPlaces.{ExposingPlaces}
use Rattle.node_tables.specs.declared.exposure.ExposingPlaces.TheVariants as exposure
use Rattle.node_tables.specs.declared.row.Row.{Row}
use Rattle.node_tables.specs.declared.span.Span.{Span}
use Rattle.node_tables.specs.declared.table.Table.{Table}
use Rattle.node_tables.specs.Receipts.{AscendBySending}
use Rattle.node_tables.specs.Rows.{AreRowsOf, stated_at}
use Rattle.node_tables.specs.Tables.{AreSpans, IsQuiet, IsTold, IsUpToDate, Says, ShowsAt, denies_at}
use Rattle.node_tables.specs.within.Bringing.{BringsNothing, IsBrought, IsNext, NoneBeside, RowStep, order_at, order_by, two_by}
use Rattle.node_tables.proofs.RowLists.{insert_names, named_at, named_by, row_names, same_length}
use Rattle.node_tables.proofs.Bools.{both}
use Rattle.node_tables.proofs.Searching.{IsGap, found_row, gap_found}
use Rattle.node_tables.proofs.Beside.{AgreesBeside, agrees_with_all}

-- ---- tests

neither : (a b : Bool) → (a && not b) ≡ false → a ≡ true → b ≡ true
neither true true h e = refl
neither true false h e = absurd cc
neither false b h e = absurd cc

pub two_means : (b a : Authenticator) → two_by (Some b) a ≡ true → (b.seq ≡ a.seq) × (b.hash ≢ a.hash)
two_means b a h =
    let t = both (b.seq == a.seq) (bytes_eq b.hash a.hash) h in
    ((Decides-eqb b.seq a.seq).0 t.0, λ same. let e = (bytes_eq-Decides b.hash a.hash).1 same in cc (e, t.1))

pub not_two : (b a : Authenticator) → two_by (Some b) a ≡ false → b.seq ≡ a.seq → b.hash ≡ a.hash
not_two b a h seq = (bytes_eq-Decides b.hash a.hash).0 (neither (b.seq == a.seq) (bytes_eq b.hash a.hash) h ((Decides-eqb b.seq a.seq).1 seq))

pub two_shows : (o : Option Authenticator) (a : Authenticator) → two_by o a ≡ true → (b : Authenticator) × (o ≡ Some b) × (b.seq ≡ a.seq) × (b.hash ≢ a.hash)
two_shows None a h = absurd cc
two_shows (Some b) a h = let t = two_means b a h in (b, refl, t.0, t.1)

by_name : (items : List Checked) (r : Row) (a b : Authenticator) → stated_at items r ≡ Some b → order_at items r a ≡ by_fields b a
by_name items r a b is = ap (λ (o : Option Authenticator). order_by o a) is

module _ (items : List Checked) (rows : List Row) (held : List Authenticator) (names : AreRowsOf items rows held) where
  -- what the rows say is what is held
  pub says_held : (a : Authenticator) → Says items rows a → Contains held a
  says_held a (r, has, is) = row_names (stated_at items) rows held r a names has is

  pub held_says : (d : Row) (a : Authenticator) → Contains held a → Says items rows a
  held_says d a has = named_by (stated_at items) rows held a names has d

  module _ (row : Row) (a : Authenticator) (is : stated_at items row ≡ Some a) where
    -- what a search finds is said already
    pub said_already : (i : ℕ) → i < length rows → IsBinarySearchResult (λ r. order_at items r a) rows (Ok i) → Contains held a
    said_already i inside equal =
        let long = same_length (stated_at items) rows held names in
        let e = found_row (stated_at items) by_fields (order_at items) (by_name items) rows held a names i row inside equal in
        subst (Contains held) (equal_same (get_or held i a) a e) (Contains-get_or held i a (omega (arith, inside, long)))

    module _ (i : ℕ) (up : IsAscending held) (inside : i ≤ length rows) (place : IsBinarySearchResult (λ r. order_at items r a) rows (Err i)) where
      gap : IsGap by_fields held a i
      gap = gap_found (stated_at items) by_fields (order_at items) (by_name items) rows held a names by_fields_total up i row inside place

      pub more_names : AreRowsOf items (insert rows i row) (insert held i a)
      more_names = insert_names (stated_at items) rows held i row a names is

      pub more_ascend : IsAscending (insert held i a)
      more_ascend = let g = gap in sorted-insert by_fields by_fields_total a held i g.inside up g.before g.behind

      module _ (own : (b : Authenticator) → Contains held b → b.node ≡ a.node) where
        agrees : NoneBeside items rows i a → AgreesBeside held a i up gap own
        agrees none =
            let long = same_length (stated_at items) rows held names in
            let g = gap in
            record {
              before = λ d one seq. not_two (get_or held (i - 1) d) a (sym (ap (λ (o : Option Authenticator). two_by o a) (named_at (stated_at items) rows held (i - 1) row d names (omega (arith, one, g.inside)))) ∙ none.before row one) seq;
              behind = λ d lt seq. not_two (get_or held i d) a (sym (ap (λ (o : Option Authenticator). two_by o a) (named_at (stated_at items) rows held i row d names lt)) ∙ none.behind row (omega (arith, lt, long))) seq;
            }

        has_all : (b : Authenticator) → Contains held b → Contains (insert held i a) b
        has_all b has = (members-insert held i a b).1 (inl has)

        has_new : Contains (insert held i a) a
        has_new = (members-insert held i a a).1 (inr refl)

        still_quiet : (spans : List Span) → BringsNothing items rows spans i a → IsQuiet items held spans → IsQuiet items (insert held i a) spans
        still_quiet spans nothing quiet =
            let all = agrees_with_all held a i up gap own quiet.one_hash (agrees nothing.beside) in
            record {
              one_hash = λ x y in_x in_y clash. ⊎_elim
                  (λ old_x. ⊎_elim
                  (λ old_y. quiet.one_hash x y old_x old_y clash)
                  (λ new_y. all x old_x (clash.one_number ∙ ap (λ (z : Authenticator). z.seq) new_y) (λ same. clash.two_hashes (same ∙ ap (λ (z : Authenticator). z.hash) (sym new_y))))
                  ((members-insert held i a y).0 in_y))
                  (λ new_x. ⊎_elim
                  (λ old_y. all y old_y (sym clash.one_number ∙ ap (λ (z : Authenticator). z.seq) new_x) (λ same. clash.two_hashes (ap (λ (z : Authenticator). z.hash) new_x ∙ sym same)))
                  (λ new_y. clash.two_hashes (ap (λ (z : Authenticator). z.hash) (new_x ∙ sym new_y)))
                  ((members-insert held i a y).0 in_y))
                  ((members-insert held i a x).0 in_x);
              undenied = λ x p in_x in_p. ⊎_elim
                  (λ old. quiet.undenied x p old in_p)
                  (λ new. subst (λ (z : Authenticator). denies_at items z p.item ≡ false) (sym new) (nothing.undenied p in_p))
                  ((members-insert held i a x).0 in_x);
              conforming = quiet.conforming;
            }

        still_shows : (spans : List Span) (e : ExposingPlaces) → ShowsAt items held spans e → ShowsAt items (insert held i a) spans e
        still_shows spans (exposure.TwoHashes r q) (x, y, one, other, clash) = (x, y, (one.0, has_all x one.1), (other.0, has_all y other.1), clash)
        still_shows spans (exposure.Denied r s) (x, one, stands, denies) = (x, (one.0, has_all x one.1), stands, denies)
        still_shows spans (exposure.Deviates s) h = h

        now_shows : (spans : List Span) (e : ExposingPlaces) → IsBrought items rows spans row a e → ShowsAt items (insert held i a) spans e
        now_shows spans (exposure.TwoHashes r q) (at, has, two) =
            let b = two_shows (stated_at items q) a two in
            let in_held = says_held b.0 (q, has, b.1) in
            (a, b.0, (ap (stated_at items) at ∙ is, has_new), (b.1, has_all b.0 in_held), record { one_node = sym (own b.0 in_held); one_number = sym b.2; two_hashes = λ same. b.3 (sym same) })
        now_shows spans (exposure.Denied r s) (at, stands, denies) = (a, (ap (stated_at items) at ∙ is, has_new), stands, denies)
        now_shows spans (exposure.Deviates s) h = absurd h

        pub next_told : (spans : List Span) (old new : Option ExposingPlaces) → IsUpToDate items held spans old → IsNext items rows spans i row a old new → IsUpToDate items (insert held i a) spans new
        next_told spans (Some e) new told next = subst (IsUpToDate items (insert held i a) spans) (sym next) (still_shows spans e told)
        next_told spans None None told next = still_quiet spans next told
        next_told spans None (Some e) told next = now_shows spans e next

-- ---- the table

module _ (items : List Checked) (row : Row) (t : Table) (told : IsTold items t) where
  -- A row that names nothing changes nothing.
  pub step_of_none : stated_at items row ≡ None → RowStep items row t t
  step_of_none none = record {
    node = refl;
    says = λ a. (λ has. inl has, λ h. ⊎_elim (λ has. has) (λ (e : (stated_at items row ≡ Some a) × (a.node ≡ t.node)). absurd (cc (none, e.0))) h);
    receipts = refl;
    spans = refl;
    unanswered = refl;
    hashes = refl;
    room = omega arith;
  }

  -- Nor does one whose statement is there already.
  pub step_of_said : (a : Authenticator) → stated_at items row ≡ Some a → (i : ℕ) → i < length t.rows.items → IsBinarySearchResult (λ r. order_at items r a) t.rows.items (Ok i) → RowStep items row t t
  step_of_said a is i inside equal =
      let has = said_already items t.rows.items told.held told.rows row a is i inside equal in
      record {
        node = refl;
        says = λ b. (λ h. inl h, λ h. ⊎_elim (λ s. s) (λ (e : (stated_at items row ≡ Some b) × (b.node ≡ t.node)). subst (Says items t.rows.items) (same_Some a b (sym is ∙ e.0)) (held_says items t.rows.items told.held told.rows row a has)) h);
        receipts = refl;
        spans = refl;
        unanswered = refl;
        hashes = refl;
        room = omega arith;
      }

  module _ (a : Authenticator) (is : stated_at items row ≡ Some a) (of_node : a.node ≡ t.node) (i : ℕ) (inside : i ≤ length t.rows.items) (place : IsBinarySearchResult (λ r. order_at items r a) t.rows.items (Err i))
      (u : Table) (node : u.node ≡ t.node) (rows : u.rows.items ≡ insert t.rows.items i row) (receipts : u.receipts ≡ t.receipts) (spans : u.spans ≡ t.spans) where
    own : (b : Authenticator) → Contains told.held b → b.node ≡ a.node
    own b has = told.own b has ∙ sym of_node

    -- One that is new is told of.
    pub told_more : IsNext items t.rows.items t.spans.items i row a t.exposure u.exposure → IsTold items u
    told_more next = record {
      held = insert told.held i a;
      rows = subst (λ (l : List Row). AreRowsOf items l (insert told.held i a)) (sym rows) (more_names items t.rows.items told.held told.rows row a is i told.ascending inside place);
      ascending = more_ascend items t.rows.items told.held told.rows row a is i told.ascending inside place;
      own = λ b has. ⊎_elim (λ old. told.own b old ∙ sym node) (λ new. ap (λ (z : Authenticator). z.node) new ∙ of_node ∙ sym node) ((members-insert told.held i a b).0 has);
      spans = subst (λ (l : List Span). AreSpans items u.node l) (sym (ap (λ v. v.items) spans)) (subst (λ (n : ℕ). AreSpans items n t.spans.items) (sym node) told.spans);
      receipts = subst (λ v. AscendBySending v.sendings.items) (sym receipts) told.receipts;
      told = subst (λ (l : List Span). IsUpToDate items (insert told.held i a) l u.exposure) (sym (ap (λ v. v.items) spans))
          (next_told items t.rows.items told.held told.rows row a is i told.ascending inside place own t.spans.items t.exposure u.exposure told.told next);
    }

    -- And it makes a step.
    pub step_more : t.rows.room ≤ u.rows.room + 1 → u.unanswered ≡ t.unanswered → u.hashes ≡ t.hashes → RowStep items row t u
    step_more room unanswered hashes = record {
      node = node;
      says = λ b. (
        λ h. ⊎_elim
            (λ old. inl (held_says items t.rows.items told.held told.rows row b old))
            (λ new. inr (is ∙ ap Some (sym new), ap (λ (z : Authenticator). z.node) new ∙ of_node))
            ((members-insert told.held i a b).0 (says_held items u.rows.items (insert told.held i a) names b h)),
        λ h. held_says items u.rows.items (insert told.held i a) names row b (⊎_elim
            (λ (old : Says items t.rows.items b). (members-insert told.held i a b).1 (inl (says_held items t.rows.items told.held told.rows b old)))
            (λ (new : (stated_at items row ≡ Some b) × (b.node ≡ t.node)). (members-insert told.held i a b).1 (inr (same_Some b a (sym new.0 ∙ is))))
            h),
      );
      receipts = receipts;
      spans = spans;
      unanswered = unanswered;
      hashes = hashes;
      room = room;
    }
      where
        names : AreRowsOf items u.rows.items (insert told.held i a)
        names = subst (λ (l : List Row). AreRowsOf items l (insert told.held i a)) (sym rows) (more_names items t.rows.items told.held told.rows row a is i told.ascending inside place)
