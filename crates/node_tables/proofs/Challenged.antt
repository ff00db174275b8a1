-- A new challenge that nothing answers, beside what is kept by hashes.
use Rattle.std.proofs.Common.{◌≡◌, ℕ, Bool, true, false, List, length, Some, refl, sym, ap, subst, ◌∙◌, ◌⊎◌, inl, inr, ⊎_elim, arith}
use Rattle.std.specs.Prelude.{◌↔◌, slice_get}
use Rattle.std.specs.List.{Contains, list_any}
use Rattle.std.proofs.lemmas.Option.{same_Some}
use Rattle.item_forms.specs.declared.forms.AuditChallenge.{AuditChallenge}
use Rattle.item_forms.specs.declared.forms.Fields.{Fields}
use Rattle.item_forms.specs.declared.forms.Fields.TheVariants as form
use Rattle.item_forms.specs.declared.forms.Statement.{Statement}
use Rattle.evidence_item.specs.Checking.{Checked}
use Rattle.evidence_set.specs.Challenges.{is_against}
use Rattle.kept_evidence.specs.Telling.{IsSegmentOf, is_answered, told_answers}
use Rattle.kept_evidence.proofs.Answered.{one_suffices, some_passes}
use Rattle.kept_items.specs.declared.link.Link.{Link}
use Rattle.kept_items.specs.Links.{AnswersAreInherited, Names, NamesBeside, first_hash}
use Rattle.node_tables.specs.declared.hashes.Hashes.{Hashes}
use Rattle.node_tables.specs.declared.mark.Mark.{Mark}
use Rattle.node_tables.specs.declared.span.Span.{Span}
use Rattle.node_tables.specs.Hashed.{AreHashed, AreHolders, HasNaming, IsAuditAt, front_of}
use Rattle.node_tables.specs.Tables.{IsSegmentAt, shows_at}
use Rattle.node_tables.specs.within.Named.{KeepNamings}
use Rattle.node_tables.specs.within.Placing.{AreOthers, answers_at}
use Rattle.node_tables.proofs.Answerers.{answered_at, no_segment}
use Rattle.node_tables.proofs.Bools.{false_by}
use Rattle.node_tables.proofs.Hashed.{behind_most, handed_on, hashed_rest, none_came, shown_at, some_shown}
use Rattle.node_tables.proofs.Places.{contains_at}

named_at : (c : AuditChallenge) (f g : List ℕ) → NamesBeside c f g → Names c f
named_at c f g named = ⊎_elim
    (λ (last : (c.last.hash ≡ f) × (first_hash c.first ≡ g)). inl last.0)
    (λ (first : (s : Statement) × (c.first ≡ Some s) × (s.hash ≡ f) × (c.last.hash ≡ g)). inr (first.0, first.1, first.2))
    named

module _ (items : List Checked) (j n : ℕ) (x : Checked) (here : slice_get items n ≡ Some x) (against : is_against j x.item.fields ≡ true) where
  pub no_segment_here : IsSegmentAt items j n → ⊥
  no_segment_here (c, at, own) = no_segment j j x.item.fields against (subst (λ (k : Checked). IsSegmentOf j k.item.fields) (same_Some c x (sym at ∙ here)) own)

  audit_here : (c : AuditChallenge) → IsAuditAt items n c → x.item.fields ≡ form.Audit c
  audit_here c (y, at, is) = ap (λ (k : Checked). k.item.fields) (same_Some x y (sym here ∙ at)) ∙ is

  -- what shows what it demands answers it
  shows_answers : (c : AuditChallenge) → x.item.fields ≡ form.Audit c → (m : ℕ) → shows_at items c m ≡ true → answers_at items n m ≡ true
  shows_answers c is m shows =
      let (d, at, h) = some_shown (slice_get items m) c shows in
      answered_at items n m x d here at ∙ ap (λ (f : Fields). told_answers f d) is ∙ h

  answers_show : (c : AuditChallenge) → x.item.fields ≡ form.Audit c → (m : ℕ) (d : Checked) → slice_get items m ≡ Some d → answers_at items n m ≡ true → shows_at items c m ≡ true
  answers_show c is m d at answers = shown_at items c m d at ∙ ap (λ (f : Fields). told_answers f d) (sym is) ∙ sym (answered_at items n m x d here at) ∙ answers

  not_shown : (c : AuditChallenge) → x.item.fields ≡ form.Audit c → is_answered items x.item.fields ≡ false → (m : ℕ) → shows_at items c m ≡ false
  not_shown c is open_so m = false_by (shows_at items c m) (λ shows.
      let (d, at, h) = some_shown (slice_get items m) c shows in
      let yes : is_answered items x.item.fields ≡ true = one_suffices (told_answers x.item.fields) items d (contains_at items m d at) (ap (λ (f : Fields). told_answers f d) is ∙ h) in
      cc (yes, open_so))

  -- It is put among those that are open.
  pub hashed_with : (places new : List ℕ) (g h : Hashes) → ((i : ℕ) → Contains new i ↔ (Contains places i ⊎ (i ≡ n))) → h.holders.items ≡ g.holders.items → KeepNamings g h
      → ((c : AuditChallenge) (f v : List ℕ) → x.item.fields ≡ form.Audit c → NamesBeside c f v → HasNaming h.lasts.items n f v ⊎ HasNaming h.firsts.items n f v)
      → is_answered items x.item.fields ≡ false → AreHashed items j n 0 places g → AreHashed items j (length items) 0 new h
  hashed_with places new g h members holders keeps naming open_so are =
      let rest = hashed_rest items j n 0 (none_came items j n no_segment_here) places places g are (λ i has. has) (λ i c has audit seg. absurd (no_segment_here seg)) in
      record {
        holders = subst (AreHolders items j (length items) 0) (sym holders) rest.holders;
        lasts = keeps.lasts;
        firsts = keeps.firsts;
        named = λ i c f v has audit named. ⊎_elim
            (λ was. ⊎_elim
            (λ (one : HasNaming g.lasts.items i f v). inl (one.0, keeps.still_lasts one.0 one.1, one.2, one.3, one.4))
            (λ (one : HasNaming g.firsts.items i f v). inr (one.0, keeps.still_firsts one.0 one.1, one.2, one.3, one.4))
            (rest.named i c f v was audit named))
            (λ (now : i ≡ n). subst (λ k. HasNaming h.lasts.items k f v ⊎ HasNaming h.firsts.items k f v) (sym now) (naming c f v (audit_here c (subst (λ k. IsAuditAt items k c) now audit)) named))
            ((members i).0 has);
        quiet = λ i m c has audit seg other. ⊎_elim
            (λ was. rest.quiet i m c was audit seg other)
            (λ (now : i ≡ n). not_shown c (audit_here c (subst (λ k. IsAuditAt items k c) now audit)) open_so m)
            ((members i).0 has);
      }

  -- ---- whether one of the segments answers it

  module _ (spans : List Span) (others : AreOthers items j n spans) (h : Hashes) (are : AreHolders items j n 0 h.holders.items) where
    abbrev answers : Span → Bool
    answers p = answers_at items n p.item

    by_holder : (m : Mark) → Contains h.holders.items m → answers_at items n m.item ≡ true → list_any answers spans ≡ true
    by_holder m has told =
        let came = (are.each m has).came in
        let stands = (others m.item).1 (came.0, λ same. no_segment_here (subst (IsSegmentAt items j) same came.0)) in
        one_suffices answers spans stands.0 stands.1 (ap (answers_at items n) stands.2 ∙ told)

    by_span : AnswersAreInherited → (c : AuditChallenge) → x.item.fields ≡ form.Audit c
        → ((m : Mark) (v : List ℕ) → Contains h.holders.items m → Names c v → m.front ≡ front_of v → answers_at items n m.item ≡ false) → list_any answers spans ≡ true → ⊥
    by_span inherited c is none told =
        let (p, has, answered) = some_passes answers spans told in
        let seg = ((others p.item).0 (p, has, refl)).0 in
        let shows = answers_show c is p.item seg.0 seg.1 answered in
        let (k, d, y, g, at, named, stands, hand) = handed_on items j n 0 h.holders.items are inherited c p.item seg (none_came items j n no_segment_here p.item seg) shows in
        let near = behind_most items p.item k d g stands in
        let (m, held, is_y, far) = are.all p.item k y (none_came items j n no_segment_here p.item seg k y at) at in
        let holder = are.each m held in
        let front : m.front ≡ front_of y.hash = holder.front ∙ ap (λ (l : Link). front_of l.hash) (same_Some holder.link y (sym holder.here ∙ is_y)) in
        let yes = shows_answers c is m.item (hand m.item m.position holder.came.0 (none_came items j n no_segment_here m.item holder.came.0) is_y (omega (arith, near, far))) in
        let not_so = none m y.hash held (named_at c y.hash g named) front in
        cc (yes, not_so)

    pub holders_tell : AnswersAreInherited → (c : AuditChallenge) → x.item.fields ≡ form.Audit c → (b : Bool)
        → (b ≡ true → (m : Mark) × Contains h.holders.items m × (answers_at items n m.item ≡ true))
        → (b ≡ false → (m : Mark) (v : List ℕ) → Contains h.holders.items m → Names c v → m.front ≡ front_of v → answers_at items n m.item ≡ false)
        → b ≡ list_any answers spans
    holders_tell inherited c is true some none = let (m, has, told) = some refl in sym (by_holder m has told)
    holders_tell inherited c is false some none = sym (false_by (list_any answers spans) (λ told. by_span inherited c is (none refl) told))

pub same_audit : (a b : AuditChallenge) → form.Audit a ≡ form.Audit b → a ≡ b
same_audit a b is = cc
