-- A segment more in the table of its node.
use Rattle.std.proofs.Common.{◌≡◌, ℕ, ◌+◌, ◌≤◌, true, false, List, Option, Some, None, refl, sym, ap, subst, ◌∙◌, inl, inr, ⊎_elim}
use Rattle.std.specs.Prelude.{◌↔◌, ◌⊎◌, slice_get}
use Rattle.std.specs.List.{Contains}
use Rattle.authenticators.specs.declared.authenticator.Authenticator.{Authenticator}
use Rattle.evidence_item.specs.Checking.{Checked}
use Rattle.kept_evidence.specs.Telling.{denies}
use Rattle.kept_items.specs.declared.reach.Reach.{Reach}
use Rattle.kept_items.specs.Keeping.{DenialsAreWithinReach, reach}
use Rattle.node_tables.specs.declared.exposure.ExposingPlaces.{ExposingPlaces}
use Rattle.node_tables.specs.declared.exposure.ExposingPlaces.TheVariants as exposure
use Rattle.node_tables.specs.declared.row.Row.{Row}
use Rattle.node_tables.specs.declared.span.Span.{Span}
use Rattle.node_tables.specs.declared.table.Table.{Table}
use Rattle.node_tables.specs.Receipts.{AscendBySending}
use Rattle.node_tables.specs.Rows.{AreRowsOf}
use Rattle.node_tables.specs.Tables.{AreSpans, IsQuiet, IsSpan, IsTold, IsUpToDate, ShowsAt, HasSpanAt, denied_by, denies_at, deviates_at}
use Rattle.node_tables.specs.within.Bringing.{IsBroughtBySegment, IsNextBySegment, SegmentBringsNothing, SegmentStep}
use Rattle.node_tables.proofs.Told.{held_says, says_held}

-- ---- reach

module _ (items : List Checked) (place : ℕ) (c : Checked) (here : slice_get items place ≡ Some c) where
  same_denial : (a : Authenticator) → denies_at items a place ≡ denies a c.item.fields
  same_denial a = ap (λ (o : Option Checked). denied_by o a) here

  pub span_reach : DenialsAreWithinReach → (r : Reach) → reach c.item.fields ≡ Some r → (a : Authenticator) → denies_at items a place ≡ true → (r.low ≤ a.seq + 2) × (a.seq ≤ r.last)
  span_reach law r is a h = let w = law a c.item.fields r is (sym (same_denial a) ∙ h) in (w.from, w.to)

-- ---- the table

module _ (items : List Checked) (spans more : List Span) (p : Span) (members : (q : Span) → Contains more q ↔ (Contains spans q ⊎ (q ≡ p))) where
  in_more : (q : Span) → Contains spans q → Contains more q
  in_more q has = (members q).1 (inl has)

  here : HasSpanAt more p.item
  here = (p, (members p).1 (inr refl), refl)

  stands_more : (i : ℕ) → HasSpanAt spans i → HasSpanAt more i
  stands_more i (q, has, is) = (q, in_more q has, is)

  pub stands_or : (i : ℕ) → HasSpanAt more i ↔ (HasSpanAt spans i ⊎ (i ≡ p.item))
  stands_or i = (
    λ h. ⊎_elim (λ old. inl (h.0, old, h.2)) (λ new. inr (sym h.2 ∙ ap (λ (q : Span). q.item) new)) ((members h.0).0 h.1),
    λ h. ⊎_elim (λ old. stands_more i old) (λ is. subst (HasSpanAt more) (sym is) here) h,
  )

  module _ (rows : List Row) (held : List Authenticator) (names : AreRowsOf items rows held) (d : Row) where
    still_quiet : SegmentBringsNothing items rows p.item → IsQuiet items held spans → IsQuiet items held more
    still_quiet nothing quiet = record {
      one_hash = quiet.one_hash;
      undenied = λ a q in_a in_q. ⊎_elim
          (λ old. quiet.undenied a q in_a old)
          (λ new. subst (λ (r : Span). denies_at items a r.item ≡ false) (sym new) (nothing.undenied a (held_says items rows held names d a in_a)))
          ((members q).0 in_q);
      conforming = λ q in_q. ⊎_elim
          (λ old. quiet.conforming q old)
          (λ new. subst (λ (r : Span). deviates_at items r.item ≡ false) (sym new) nothing.conforming)
          ((members q).0 in_q);
    }

    still_shows : (e : ExposingPlaces) → ShowsAt items held spans e → ShowsAt items held more e
    still_shows (exposure.TwoHashes r q) h = h
    still_shows (exposure.Denied r i) (a, names_a, stands, denies) = (a, names_a, stands_more i stands, denies)
    still_shows (exposure.Deviates i) (stands, deviates) = (stands_more i stands, deviates)

    now_shows : (e : ExposingPlaces) → IsBroughtBySegment items rows p.item e → ShowsAt items held more e
    now_shows (exposure.TwoHashes r q) h = absurd h
    now_shows (exposure.Denied r i) (at, has, (a, is, denies)) = (a, (is, says_held items rows held names a (r, has, is)), subst (HasSpanAt more) (sym at) here, subst (λ n. denies_at items a n ≡ true) (sym at) denies)
    now_shows (exposure.Deviates i) (at, deviates) = (subst (HasSpanAt more) (sym at) here, subst (λ n. deviates_at items n ≡ true) (sym at) deviates)

    next_told : (old new : Option ExposingPlaces) → IsUpToDate items held spans old → IsNextBySegment items rows p.item old new → IsUpToDate items held more new
    next_told (Some e) new told next = subst (IsUpToDate items held more) (sym next) (still_shows e told)
    next_told None None told next = still_quiet next told
    next_told None (Some e) told next = now_shows e next

module _ (items : List Checked) (t u : Table) (p : Span) (d : Row) (node : u.node ≡ t.node) (rows : u.rows ≡ t.rows) (receipts : u.receipts ≡ t.receipts) (members : (q : Span) → Contains u.spans.items q ↔ (Contains t.spans.items q ⊎ (q ≡ p))) where
  pub told_segment : IsTold items t → IsSpan items t.node p → IsNextBySegment items t.rows.items p.item t.exposure u.exposure → IsTold items u
  told_segment told is next = record {
    held = told.held;
    rows = subst (λ v. AreRowsOf items v.items told.held) (sym rows) told.rows;
    ascending = told.ascending;
    own = λ a has. told.own a has ∙ sym node;
    spans = subst (λ n. AreSpans items n u.spans.items) (sym node)
        (λ q has. ⊎_elim (λ old. told.spans q old) (λ new. subst (IsSpan items t.node) (sym new) is) ((members q).0 has));
    receipts = subst (λ v. AscendBySending v.sendings.items) (sym receipts) told.receipts;
    told = next_told items t.spans.items u.spans.items p members t.rows.items told.held told.rows d t.exposure u.exposure told.told next;
  }

  pub step_segment : (place : ℕ) → p.item ≡ place → u.unanswered ≡ t.unanswered → u.hashes ≡ t.hashes → SegmentStep items place t u
  step_segment place at unanswered hashes = record {
    node = node;
    rows = rows;
    receipts = receipts;
    stands = λ i. subst (λ n. HasSpanAt u.spans.items i ↔ (HasSpanAt t.spans.items i ⊎ (i ≡ n))) at (stands_or items t.spans.items u.spans.items p members i);
    unanswered = unanswered;
    hashes = hashes;
  }
