-- What a segment takes of the open audit challenges, by their marks.
use Rattle.std.proofs.Common.{◌≡◌, ◌≢◌, ℕ, ◌+◌, ◌-◌, ◌<◌, ◌≤◌, true, false, not, List, length, get_or, Option, Some, None, refl, sym, ap, subst, ◌∙◌, ◌⊎◌, inl, inr, ⊎_elim, arith}
use Rattle.std.specs.Prelude.{slice_get}
use Rattle.std.specs.List.{Contains, filter, remove}
use Rattle.std.proofs.lemmas.Bool.{cases_lt}
use Rattle.std.proofs.lemmas.List.Elements.{Contains-get_or}
use Rattle.std.proofs.lemmas.Option.{same_Some}
use Rattle.item_forms.specs.declared.forms.AuditChallenge.{AuditChallenge}
use Rattle.item_forms.specs.declared.forms.Fields.{Fields}
use Rattle.item_forms.specs.declared.forms.Fields.TheVariants as form
use Rattle.evidence_item.specs.Checking.{Checked}
use Rattle.kept_evidence.proofs.Members.{passing}
use Rattle.kept_items.specs.declared.link.Link.{Link}
use Rattle.kept_items.specs.Links.{AnswersAreInherited, NamesBeside}
use Rattle.node_tables.specs.declared.hashes.Hashes.{Hashes}
use Rattle.node_tables.specs.declared.naming.Fronts.{Fronts}
use Rattle.node_tables.specs.declared.naming.Naming.{Naming}
use Rattle.node_tables.specs.Hashed.{AreHashed, AreHolders, HasNaming, IsAuditAt, StandByPairs, front_of, link_at}
use Rattle.node_tables.specs.Places.{AscendBySpelling}
use Rattle.node_tables.specs.Tables.{IsSegmentAt, shown_by, shows_at}
use Rattle.node_tables.specs.within.Marking.{IsKnown, IsKnownBut}
use Rattle.node_tables.specs.within.Named.{AreAnswered, AreBothAnswered, AreClosed, AreLookedAt, AreNamingsOf, AreStruck, AreTaken, IsAmongFirst, IsDone, IsLookedAt, IsOf, beside, is_like}
use Rattle.node_tables.specs.within.Sendings.{audited_by, told_audit}
use Rattle.node_tables.proofs.Asked.{asked_filtered}
use Rattle.node_tables.proofs.Audited.{audited_like, like_itself, weaker}
use Rattle.node_tables.proofs.Bools.{false_by, turned}
use Rattle.node_tables.proofs.Hashed.{HasAllCome, StandsBehind, behind_most, handed_on, hashed_rest}
use Rattle.node_tables.proofs.Marked.{removed_before, removed_behind, removed_length}
use Rattle.node_tables.proofs.Sendings.{all_stay}

-- ---- two words for one test

audited_by_fields : (x : Checked) (c : AuditChallenge) → x.item.fields ≡ form.Audit c → (o : Option Checked) → audited_by (Some x) o ≡ shown_by o c
audited_by_fields x c is None = refl
audited_by_fields x c is (Some d) = ap (λ (f : Fields). told_audit f d.item.fields) is

pub audited_is : (items : List Checked) (i n : ℕ) (c : AuditChallenge) → IsAuditAt items i c → audited_by (slice_get items i) (slice_get items n) ≡ shows_at items c n
audited_is items i n c (x, at, is) = ap (λ (o : Option Checked). audited_by o (slice_get items n)) at ∙ audited_by_fields x c is (slice_get items n)

an_audit : (x : Fields) (y : Fields) → told_audit x y ≡ true → (c : AuditChallenge) × (x ≡ form.Audit c)
an_audit (form.Auth a) y h = absurd cc
an_audit (form.Segment s) y h = absurd cc
an_audit (form.Audit c) y h = (c, refl)
an_audit (form.Send m) y h = absurd cc
an_audit (form.Ack a) y h = absurd cc

audited_means : (o p : Option Checked) → audited_by o p ≡ true → (x : Checked) × (c : AuditChallenge) × (o ≡ Some x) × (x.item.fields ≡ form.Audit c)
audited_means None p h = absurd cc
audited_means (Some x) None h = absurd cc
audited_means (Some x) (Some y) h = let (c, is) = an_audit x.item.fields y.item.fields h in (x, c, refl, is)

-- ---- one goes, by its spelling

module _ (items : List Checked) (answer place : ℕ) (old new : List ℕ) (spelled : AscendBySpelling items old) (is : new ≡ filter (λ i. not (is_like (slice_get items i) (slice_get items place))) old)
    (answered : audited_by (slice_get items place) (slice_get items answer) ≡ true) where
  stays : (i : ℕ) → Contains new i → Contains old i × (is_like (slice_get items i) (slice_get items place) ≡ false)
  stays i has = let t = passing (λ (k : ℕ). not (is_like (slice_get items k) (slice_get items place))) old i (subst (λ (l : List ℕ). Contains l i) is has) in (t.0, turned (is_like (slice_get items i) (slice_get items place)) t.1)

  pub one_taken : AreTaken items answer old new
  one_taken = record {
    spelled = asked_filtered items (λ o. not (is_like o (slice_get items place))) old new is spelled;
    rest = ap (λ (l : List ℕ). filter (λ i. not (audited_by (slice_get items i) (slice_get items answer))) l) is
        ∙ weaker (λ i. audited_by (slice_get items i) (slice_get items answer)) (λ i. is_like (slice_get items i) (slice_get items place)) old
        (λ i like. audited_like (slice_get items i) (slice_get items place) (slice_get items answer) like answered);
    fewer = λ i has. (stays i has).0;
  }

  pub one_gone : Contains new place → ⊥
  one_gone has =
      let (x, c, at, audit) = audited_means (slice_get items place) (slice_get items answer) answered in
      let like = like_itself (slice_get items place) x at in
      let not_so = (stays place has).1 in
      cc (like, not_so)

-- ---- several go

pub none_taken : (items : List Checked) (answer : ℕ) (places : List ℕ) → AscendBySpelling items places → AreTaken items answer places places
none_taken items answer places spelled = record { spelled = spelled; rest = refl; fewer = λ i has. has }

pub more_taken : (items : List Checked) (answer : ℕ) (old mid new : List ℕ) → AreTaken items answer old mid → AreTaken items answer mid new → AreTaken items answer old new
more_taken items answer old mid new first last = record { spelled = last.spelled; rest = last.rest ∙ first.rest; fewer = λ i has. first.fewer i (last.fewer i has) }

pub same_namings : (places : List ℕ) (namings : List Naming) → StandByPairs namings → AreNamingsOf places namings namings
same_namings places namings order = record { order = order; fewer = λ m has. has; stay = λ m has open_too. has }

pub more_namings : (wide narrow : List ℕ) (old mid new : List Naming) → ((i : ℕ) → Contains narrow i → Contains wide i) → AreNamingsOf wide old mid → AreNamingsOf narrow mid new → AreNamingsOf narrow old new
more_namings wide narrow old mid new less first last = record {
  order = last.order;
  fewer = λ m has. first.fewer m (last.fewer m has);
  stay = λ m has still. last.stay m (first.stay m has (less m.item still)) still;
}

pub none_struck : (items : List Checked) (n : ℕ) (places : List ℕ) (h : Hashes) → AscendBySpelling items places → StandByPairs h.lasts.items → StandByPairs h.firsts.items → AreStruck items n places places h h
none_struck items n places h spelled lasts firsts = record {
  places = none_taken items n places spelled;
  holders = refl;
  lasts = same_namings places h.lasts.items lasts;
  firsts = same_namings places h.firsts.items firsts;
}

pub more_struck : (items : List Checked) (n : ℕ) (old mid new : List ℕ) (f g h : Hashes) → AreStruck items n old mid f g → AreStruck items n mid new g h → AreStruck items n old new f h
more_struck items n old mid new f g h first last = record {
  places = more_taken items n old mid new first.places last.places;
  holders = last.holders ∙ first.holders;
  lasts = more_namings mid new f.lasts.items g.lasts.items h.lasts.items last.places.fewer first.lasts last.lasts;
  firsts = more_namings mid new f.firsts.items g.firsts.items h.firsts.items last.places.fewer first.firsts last.firsts;
}

pub fewer_answered : (items : List Checked) (n : ℕ) (f : Fronts) (old new : List Naming) → ((m : Naming) → Contains new m → Contains old m) → AreAnswered items n f old → AreAnswered items n f new
fewer_answered items n f old new fewer none m has is = none m (fewer m has) is

pub fewer_both : (items : List Checked) (n : ℕ) (f : Fronts) (old new : List ℕ) (g h : Hashes) → AreStruck items n old new g h → AreBothAnswered items n f g → AreBothAnswered items n f h
fewer_both items n f old new g h struck none =
    (fewer_answered items n f g.lasts.items h.lasts.items struck.lasts.fewer none.0, fewer_answered items n f g.firsts.items h.firsts.items struck.firsts.fewer none.1)

-- the naming at a place goes
pub one_unnamed : (places : List ℕ) (old new : List Naming) (gone : Naming) → StandByPairs new → ((m : Naming) → Contains new m → Contains old m) → ((m : Naming) → Contains old m → Contains new m ⊎ (m ≡ gone)) → (Contains places gone.item → ⊥) → AreNamingsOf places old new
one_unnamed places old new gone order fewer others none = record {
  order = order;
  fewer = fewer;
  stay = λ m has still. ⊎_elim (λ in_new. in_new) (λ (same : m ≡ gone). absurd (none (subst (λ (k : Naming). Contains places k.item) same still))) (others m has);
}

pub others_unnamed : (places : List ℕ) (old new : List Naming) (item : ℕ) → StandByPairs new → ((m : Naming) → Contains new m → Contains old m) → ((m : Naming) → Contains old m → m.item ≢ item → Contains new m) → (Contains places item → ⊥) → AreNamingsOf places old new
others_unnamed places old new item order fewer others none = record {
  order = order;
  fewer = fewer;
  stay = λ m has still. others m has (λ same. none (subst (Contains places) same still));
}

-- ---- those that are looked for

-- Up to a place none of them is answered, and from another place on there is none.
pub record Seen (items : List Checked) (answer : ℕ) (f : Fronts) (namings : List Naming) (at end : ℕ) : Type 0 where
  pub inside : end ≤ length namings
  pub before : (k : ℕ) (d : Naming) → k < at → k < length namings → IsOf f (get_or namings k d) → audited_by (slice_get items (get_or namings k d).item) (slice_get items answer) ≡ false
  pub behind : (k : ℕ) (d : Naming) → end ≤ k → k < length namings → IsOf f (get_or namings k d) → ⊥

pub seen_first : (items : List Checked) (answer : ℕ) (f : Fronts) (namings : List Naming) (start end : ℕ) → end ≤ length namings → ((k : ℕ) (d : Naming) → k < length namings → IsOf f (get_or namings k d) → (start ≤ k) × (k < end)) → Seen items answer f namings start end
seen_first items answer f namings start end inside around = record {
  inside = inside;
  before = λ k d lt here is. let near = around k d here is in absurd (omega (arith, lt, near.0));
  behind = λ k d le here is. let near = around k d here is in omega (arith, le, near.1);
}

module _ (items : List Checked) (answer : ℕ) (f : Fronts) (namings : List Naming) (at end : ℕ) (seen : Seen items answer f namings at end) (lt : at < end) where
  pub seen_next : ((d : Naming) → at < length namings → audited_by (slice_get items (get_or namings at d).item) (slice_get items answer) ≡ false) → Seen items answer f namings (at + 1) end
  seen_next none = record {
    inside = seen.inside;
    before = λ k d less here is. ⊎_elim
        (λ (first : k < at). seen.before k d first here is)
        (λ (le : at ≤ k).
        let same : at ≡ k = omega (arith, le, less) in
        subst (λ i. audited_by (slice_get items (get_or namings i d).item) (slice_get items answer) ≡ false) same (none d (omega (arith, here, le))))
        (cases_lt k at);
    behind = seen.behind;
  }

  pub seen_without : Seen items answer f (remove namings at) at (end - 1)
  seen_without =
      let inside : at < length namings = omega (arith, lt, seen.inside) in
      let shorter = removed_length namings at inside in
      record {
        inside = (let most = seen.inside in omega (arith, shorter, most, lt));
        before = λ k d less here is.
            let same = removed_before namings at inside k d less in
            let was = seen.before k d less (omega (arith, less, inside)) (subst (IsOf f) same is) in
            ap (λ (m : Naming). audited_by (slice_get items m.item) (slice_get items answer)) same ∙ was;
        behind = λ k d le here is.
            let same = removed_behind namings at inside k d (omega (arith, lt, le)) in
            seen.behind (k + 1) d (omega (arith, lt, le)) (omega (arith, here, shorter)) (subst (IsOf f) same is);
      }

pub seen_all : (items : List Checked) (answer : ℕ) (f : Fronts) (namings : List Naming) (at end : ℕ) → Seen items answer f namings at end → end ≤ at → AreAnswered items answer f namings
seen_all items answer f namings at end seen done m (k, here, same) is =
    let there : IsOf f (get_or namings k m) = subst (IsOf f) (sym same) is in
    ⊎_elim
    (λ (lt : k < at). ap (λ (x : Naming). audited_by (slice_get items x.item) (slice_get items answer)) (sym same) ∙ seen.before k m lt here there)
    (λ (le : at ≤ k). absurd (seen.behind k m (omega (arith, le, done)) here there))
    (cases_lt k at)

-- ---- beside one entry more

-- Where there is nothing beside the hash before the first entry, and nothing beside the first r entries.
module _ (items : List Checked) (n front : ℕ) where
  pub looked_first : (h : Hashes) → ((b : Link) → link_at items n 0 ≡ Some b → AreBothAnswered items n (beside front (front_of b.prev)) h) → AreLookedAt items n front 0 h
  looked_first h begun g among = ⊎_elim
      (λ (one : (k : ℕ) × (b : Link) × (k < 0) × (link_at items n k ≡ Some b) × (b.hash ≡ g)). absurd (let lt = one.2 in omega (arith, lt)))
      (λ (begins : (b : Link) × (link_at items n 0 ≡ Some b) × (b.prev ≡ g)). subst (λ v. AreBothAnswered items n (beside front (front_of v)) h) begins.2 (begun begins.0 begins.1))
      among

  pub looked_next : (r : ℕ) (old new : List ℕ) (g h : Hashes) → AreStruck items n old new g h → AreLookedAt items n front r g → ((b : Link) → link_at items n r ≡ Some b → AreBothAnswered items n (beside front (front_of b.hash)) h) → AreLookedAt items n front (r + 1) h
  looked_next r old new g h struck looked now v among = ⊎_elim
      (λ (one : (k : ℕ) × (b : Link) × (k < r + 1) × (link_at items n k ≡ Some b) × (b.hash ≡ v)).
      let (k, b, lt, at, is) = one in
      ⊎_elim
      (λ (first : k < r). fewer_both items n (beside front (front_of v)) old new g h struck (looked v (inl (k, b, first, at, is))))
      (λ (le : r ≤ k).
      let same : k ≡ r = omega (arith, lt, le) in
      subst (λ u. AreBothAnswered items n (beside front (front_of u)) h) is (now b (subst (λ l. link_at items n l ≡ Some b) same at)))
      (cases_lt k r))
      (λ (begins : (b : Link) × (link_at items n 0 ≡ Some b) × (b.prev ≡ v)). fewer_both items n (beside front (front_of v)) old new g h struck (looked v (inr begins)))
      among

  -- where all that names the entry was looked at
  pub looked_wide : (r : ℕ) (h : Hashes) → AreBothAnswered items n (record { front = front; other = None }) h → AreLookedAt items n front r h
  looked_wide r h none g among = (λ m has is. none.0 m has (is.0, tt), λ m has is. none.1 m has (is.0, tt))

-- ---- one position more

module _ (items : List Checked) (j n p : ℕ) (x : Link) (old new : List ℕ) (g h : Hashes) (closed : AreClosed items j n p old g) (here : link_at items n p ≡ Some x)
    (holders : AreHolders items j n (p + 1) h.holders.items) (fewer : (i : ℕ) → Contains new i → Contains old i)
    (lasts : AreNamingsOf new g.lasts.items h.lasts.items) (firsts : AreNamingsOf new g.firsts.items h.firsts.items) where
  still_named : (i : ℕ) (c : AuditChallenge) (f v : List ℕ) → Contains new i → IsAuditAt items i c → NamesBeside c f v → HasNaming h.lasts.items i f v ⊎ HasNaming h.firsts.items i f v
  still_named i c f v has audit named = ⊎_elim
      (λ (one : HasNaming g.lasts.items i f v). inl (one.0, lasts.stay one.0 one.1 (subst (Contains new) (sym one.2) has), one.2, one.3, one.4))
      (λ (one : HasNaming g.firsts.items i f v). inr (one.0, firsts.stay one.0 one.1 (subst (Contains new) (sym one.2) has), one.2, one.3, one.4))
      (closed.hashed.named i c f v (fewer i has) audit named)

  still_done : (k : ℕ) (y : Link) → IsDone items j n old k y → IsDone items j n new k y
  still_done k y done = ⊎_elim
      (λ (looked : IsLookedAt items j n old k y). inl (record { first = looked.first; known = looked.known; none = λ i c v has audit named among. looked.none i c v (fewer i has) audit named among }))
      (λ known. inr known)
      done

  pub closed_more : IsDone items j n new p x → AreClosed items j n (p + 1) new h
  closed_more now = record {
    hashed = record {
      holders = holders;
      lasts = lasts.order;
      firsts = firsts.order;
      named = still_named;
      quiet = λ i m c has audit seg other. closed.hashed.quiet i m c (fewer i has) audit seg other;
    };
    done = λ k y lt at. ⊎_elim
        (λ (first : k < p). still_done k y (closed.done k y first at))
        (λ (le : p ≤ k).
        let same : p ≡ k = omega (arith, lt, le) in
        let is : x ≡ y = same_Some x y (sym here ∙ subst (λ l. link_at items n l ≡ Some y) (sym same) at) in
        subst (λ l. IsDone items j n new l y) same (subst (IsDone items j n new p) is now))
        (cases_lt k p);
  }

  -- what names the entry beside the first r, or the hash before them, was looked at
  pub looked_at : (r : ℕ) → IsKnownBut items j n p x r → AreLookedAt items n (front_of x.hash) r h → IsDone items j n new p x
  looked_at r known looked = inl (record {
    first = r;
    known = known;
    none = λ i c v has audit named among.
        let none = looked v among in
        sym (audited_is items i n c audit)
        ∙ ⊎_elim
        (λ (one : HasNaming h.lasts.items i x.hash v). subst (λ k. audited_by (slice_get items k) (slice_get items n) ≡ false) one.2 (none.0 one.0 one.1 (one.3, one.4)))
        (λ (one : HasNaming h.firsts.items i x.hash v). subst (λ k. audited_by (slice_get items k) (slice_get items n) ≡ false) one.2 (none.1 one.0 one.1 (one.3, one.4)))
        (still_named i c x.hash v has audit named);
  })

-- ---- all positions

module _ (items : List Checked) (j n p : ℕ) (places : List ℕ) (h : Hashes) (segment : IsSegmentAt items j n) (inherited : AnswersAreInherited) (closed : AreClosed items j n p places h)
    (all : (k : ℕ) (x : Link) → link_at items n k ≡ Some x → k < p) where
  came : (i : ℕ) → IsSegmentAt items j i → HasAllCome items j n p i
  came i seg k x at = (seg, λ same. all k x (subst (λ l. link_at items l k ≡ Some x) same at))

  by_looked : (i : ℕ) (c : AuditChallenge) → Contains places i → IsAuditAt items i c → shows_at items c n ≡ true → (k d : ℕ) (x : Link) (g : List ℕ) → IsLookedAt items j n places k x → NamesBeside c x.hash g
      → StandsBehind items n k d g → ((q : ℕ) → d ≤ q → IsKnown items j n q x → ⊥) → ⊥
  by_looked i c has audit shows k d x g looked named stands elsewhere = ⊎_elim
      (λ (one : (l : ℕ) × (b : Link) × (l + d ≡ k) × (link_at items n l ≡ Some b) × (b.hash ≡ g)).
      let (l, b, apart, at, is) = one in
      ⊎_elim
      (λ (lt : l < looked.first). seen (inl (l, b, lt, at, is)))
      (λ (le : looked.first ≤ l). ⊎_elim
      (λ (few : k < looked.first). absurd (omega (arith, few, le, apart)))
      (λ (one : (q : ℕ) × (k ≤ looked.first + q) × IsKnown items j n q x). elsewhere one.0 (let most = one.1 in omega (arith, most, le, apart)) one.2)
      looked.known)
      (cases_lt l looked.first))
      (λ (begins : (b : Link) × (d ≡ k) × (link_at items n 0 ≡ Some b) × (b.prev ≡ g)). seen (inr (begins.0, begins.2, begins.3)))
      stands
    where
      seen : IsAmongFirst items n looked.first g → ⊥
      seen among = let not_so = looked.none i c g has audit named among in cc (shows, not_so)

  pub none_answered : (i : ℕ) (c : AuditChallenge) → Contains places i → IsAuditAt items i c → shows_at items c n ≡ false
  none_answered i c has audit = false_by (shows_at items c n) (λ shows.
      let (k, d, x, g, at, named, stands, hand) = handed_on items j n p h.holders.items closed.hashed.holders inherited c n segment (came n segment) shows in
      let elsewhere : (q : ℕ) → d ≤ q → IsKnown items j n q x → ⊥ = λ q most known. (
      let (m, l, seg, other, there, far) = known in
      let yes = hand m l seg (came m seg) there (omega (arith, most, far)) in
      let not_so = closed.hashed.quiet i m c has audit seg other in
      cc (yes, not_so)
      ) in
      ⊎_elim
      (λ (looked : IsLookedAt items j n places k x). by_looked i c has audit shows k d x g looked named stands elsewhere)
      (λ (known : IsKnown items j n k x). elsewhere k (behind_most items n k d g stands) known)
      (closed.done k x (all k x at) at))

  not_audited : (i : ℕ) → Contains places i → audited_by (slice_get items i) (slice_get items n) ≡ false
  not_audited i has = false_by (audited_by (slice_get items i) (slice_get items n)) (λ yes.
      let (x, c, at, is) = audited_means (slice_get items i) (slice_get items n) yes in
      let audit : IsAuditAt items i c = (x, at, is) in
      let not_so = audited_is items i n c audit ∙ none_answered i c has audit in
      cc (yes, not_so))

  pub all_taken : (old : List ℕ) → AreTaken items n old places → places ≡ filter (λ i. not (audited_by (slice_get items i) (slice_get items n))) old
  all_taken old taken =
      all_stay (λ i. audited_by (slice_get items i) (slice_get items n)) places (λ k d lt. not_audited (get_or places k d) (Contains-get_or places k d lt))
      ∙ taken.rest

  pub all_hashed : AreHashed items j (length items) 0 places h
  all_hashed = hashed_rest items j n p came places places h closed.hashed (λ i has. has) (λ i c has audit seg. none_answered i c has audit)
