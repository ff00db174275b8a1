-- What is kept by hashes: among more items, once a segment came, and what it tells of audit challenges.
use Rattle.std.proofs.Common.{◌≡◌, ◌≢◌, ℕ, suc, ◌+◌, ◌<◌, ◌≤◌, true, false, List, [], ◌∷◌, ◌++◌, length, Option, Some, None, refl, sym, ap, subst, ◌∙◌, ◌⊎◌, inl, inr, ⊎_elim, arith}
use Rattle.std.specs.Prelude.{◌==◌, slice_get}
use Rattle.std.specs.List.{Contains}
use Rattle.std.proofs.lemmas.Bool.{cases_eq}
use Rattle.std.proofs.lemmas.Bool.Decides.{Decides-eqb}
use Rattle.std.proofs.lemmas.Option.{same_Some, slice_get_within}
use Rattle.log_chain.specs.declared.entry.Entry.{Entry}
use Rattle.log_chain.specs.Chain.{entry_hash}
use Rattle.item_forms.specs.declared.forms.AuditChallenge.{AuditChallenge}
use Rattle.item_forms.specs.declared.forms.Fields.{Fields}
use Rattle.item_forms.specs.declared.forms.Fields.TheVariants as form
use Rattle.evidence_item.specs.Checking.{Checked}
use Rattle.evidence_set.specs.Challenges.{answers_audit}
use Rattle.kept_evidence.specs.Telling.{IsSegmentOf}
use Rattle.kept_items.specs.declared.link.Link.{Link}
use Rattle.kept_items.specs.Links.{Agree, AnswersAreInherited, IsBehind, NamesBeside, link_in, links}
use Rattle.kept_items.specs.Positions.{positions}
use Rattle.node_tables.specs.declared.hashes.Hashes.{Hashes}
use Rattle.node_tables.specs.declared.mark.Mark.{Mark}
use Rattle.node_tables.specs.declared.table.Table.{Table}
use Rattle.node_tables.specs.Hashed.{AreAsked, AreHashed, AreHolders, AreSame, HasCome, HasNaming, IsAuditAt, StandByPairs, link_at, link_by}
use Rattle.node_tables.specs.Places.{AscendBySpelling}
use Rattle.node_tables.specs.Tables.{IsSegmentAt, shown_by, shows_at}
use Rattle.node_tables.proofs.Asked.{asked_more, there_by}
use Rattle.node_tables.proofs.Bools.{and_both}
use Rattle.node_tables.proofs.Grown.{at_cases, still_at}

-- ---- what stands at a place

pub shown_at : (items : List Checked) (c : AuditChallenge) (i : ℕ) (d : Checked) → slice_get items i ≡ Some d → shows_at items c i ≡ answers_audit c d.item.fields
shown_at items c i d at = ap (λ (o : Option Checked). shown_by o c) at

pub linked_at : (items : List Checked) (i k : ℕ) (d : Checked) → slice_get items i ≡ Some d → link_at items i k ≡ link_in d.item.fields k
linked_at items i k d at = ap (λ (o : Option Checked). link_by o k) at

entries_linked : (prev : List ℕ) (es : List Entry) → length (links prev es) ≡ length es
entries_linked prev [] = refl
entries_linked prev (e ∷ es) = ap (λ n. suc n) (entries_linked (entry_hash prev e) es)

-- An entry stands at a position before the last one.
pub linked_before : (y : Fields) (k : ℕ) (x : Link) → link_in y k ≡ Some x → k + 1 < positions y
linked_before (form.Auth a) k x h = absurd cc
linked_before (form.Segment s) k x h =
    let inside = slice_get_within (links s.prev s.entries) k x h in
    let long = entries_linked s.prev s.entries in
    omega (arith, inside, long)
linked_before (form.Audit d) k x h = absurd cc
linked_before (form.Send m) k x h = absurd cc
linked_before (form.Ack a) k x h = absurd cc

pub some_shown : (o : Option Checked) (c : AuditChallenge) → shown_by o c ≡ true → (d : Checked) × (o ≡ Some d) × (answers_audit c d.item.fields ≡ true)
some_shown None c h = absurd cc
some_shown (Some d) c h = (d, refl, h)

pub node_is : (j : ℕ) (c : AuditChallenge) (y : Fields) → answers_audit c y ≡ true → IsSegmentOf j y → c.node ≡ j
node_is j c (form.Auth a) h own = absurd own
node_is j c (form.Segment s) h own = sym ((Decides-eqb s.node c.node).0 (and_both (s.node == c.node) _ h).0) ∙ own
node_is j c (form.Audit d) h own = absurd own
node_is j c (form.Send m) h own = absurd own
node_is j c (form.Ack a) h own = absurd own

-- ---- a segment that answers hands it on

-- In the segment at place i the hash stands d entries before position k.
abbrev pub StandsBehind : List Checked → (i k d : ℕ) → List ℕ → Type 0
StandsBehind items i k d g = ((l : ℕ) × (b : Link) × (l + d ≡ k) × (link_at items i l ≡ Some b) × (b.hash ≡ g)) ⊎ ((b : Link) × (d ≡ k) × (link_at items i 0 ≡ Some b) × (b.prev ≡ g))

stands_there : (items : List Checked) (i k d : ℕ) (g : List ℕ) (e : Checked) → slice_get items i ≡ Some e → IsBehind e.item.fields k d g → StandsBehind items i k d g
stands_there items i k d g e at stands = ⊎_elim
    (λ (one : (l : ℕ) × (b : Link) × (l + d ≡ k) × (link_in e.item.fields l ≡ Some b) × (b.hash ≡ g)). inl (one.0, one.1, one.2, linked_at items i one.0 e at ∙ one.3, one.4))
    (λ (begins : (b : Link) × (d ≡ k) × (link_in e.item.fields 0 ≡ Some b) × (b.prev ≡ g)). inr (begins.0, begins.1, linked_at items i 0 e at ∙ begins.2, begins.3))
    stands

pub behind_most : (items : List Checked) (n k d : ℕ) (g : List ℕ) → StandsBehind items n k d g → d ≤ k
behind_most items n k d g stands = ⊎_elim
    (λ (one : (l : ℕ) × (b : Link) × (l + d ≡ k) × (link_at items n l ≡ Some b) × (b.hash ≡ g)). let is = one.2 in omega (arith, is))
    (λ (begins : (b : Link) × (d ≡ k) × (link_at items n 0 ≡ Some b) × (b.prev ≡ g)). let is = begins.1 in omega (arith, is))
    stands

-- All that the segment at a place has came.
abbrev pub HasAllCome : List Checked → (j n p i : ℕ) → Type 0
HasAllCome items j n p i = (k : ℕ) (x : Link) → link_at items i k ≡ Some x → HasCome items j n p i k

module _ (items : List Checked) (j n p : ℕ) (holders : List Mark) (are : AreHolders items j n p holders) where
  agree : (i l : ℕ) (d e : Checked) → slice_get items i ≡ Some d → slice_get items l ≡ Some e → HasAllCome items j n p i → HasAllCome items j n p l → Agree d.item.fields e.item.fields
  agree i l d e at_i at_l came_i came_l = record {
    one = λ k m x y is_x is_y same.
        let there_x = linked_at items i k d at_i ∙ is_x in
        let there_y = linked_at items l m e at_l ∙ is_y in
        are.one i k l m x y (came_i k x there_x) (came_l m y there_y) there_x there_y same;
    based = λ m y is_y. let there = linked_at items l m e at_l ∙ is_y in are.based l m y (came_l m y there) there;
  }

  -- Of a segment that answers an audit challenge an entry that the challenge names tells that each answers it that holds the entry behind
  -- as many as the other hash stands before it here.
  pub handed_on : AnswersAreInherited → (c : AuditChallenge) (i : ℕ) → IsSegmentAt items j i → HasAllCome items j n p i → shows_at items c i ≡ true
      → (k d : ℕ) × (x : Link) × (g : List ℕ) × (link_at items i k ≡ Some x) × NamesBeside c x.hash g × StandsBehind items i k d g
      × ((l m : ℕ) → IsSegmentAt items j l → HasAllCome items j n p l → link_at items l m ≡ Some x → d ≤ m → shows_at items c l ≡ true)
  handed_on inherited c i (d, at_d, own) came shows =
      let h : answers_audit c d.item.fields ≡ true = sym (shown_at items c i d at_d) ∙ shows in
      let (k, far_from, x, g, here, named, stands, hand) = inherited c d.item.fields h in
      let node = node_is j c d.item.fields h own in (
        k,
        far_from,
        x,
        g,
        linked_at items i k d at_d ∙ here,
        named,
        stands_there items i k far_from g d at_d stands,
        λ l m (e, at_e, own_e) came_l there far.
            shown_at items c l e at_e
            ∙ hand e.item.fields m (subst (λ v. IsSegmentOf v e.item.fields) (sym node) own_e) (agree i l d e at_d at_e came came_l) (sym (linked_at items l m e at_e) ∙ there) far,
      )

-- ---- once all of an item came

module _ (items : List Checked) (j n p : ℕ) (all_came : (i : ℕ) → IsSegmentAt items j i → HasAllCome items j n p i) where
  at_rest : (i k : ℕ) → IsSegmentAt items j i → HasCome items j (length items) 0 i k
  at_rest i k seg = (seg, λ same. let lt = slice_get_within items i seg.0 seg.1 in absurd (omega (arith, lt, same)))

  holders_rest : (holders : List Mark) → AreHolders items j n p holders → AreHolders items j (length items) 0 holders
  holders_rest holders are = record {
    order = are.order;
    each = λ m has. let h = are.each m has in record { came = at_rest m.item m.position h.came.0; link = h.link; here = h.here; front = h.front };
    all = λ i k x came at. are.all i k x (all_came i came.0 k x at) at;
    one = λ i k l m x y came_x came_y at_x at_y same. are.one i k l m x y (all_came i came_x.0 k x at_x) (all_came l came_y.0 m y at_y) at_x at_y same;
    based = λ i k x came at. are.based i k x (all_came i came.0 k x at) at;
  }

  pub hashed_rest : (old new : List ℕ) (h : Hashes) → AreHashed items j n p old h → ((i : ℕ) → Contains new i → Contains old i)
      → ((i : ℕ) (c : AuditChallenge) → Contains new i → IsAuditAt items i c → IsSegmentAt items j n → shows_at items c n ≡ false) → AreHashed items j (length items) 0 new h
  hashed_rest old new h are fewer none = record {
    holders = holders_rest h.holders.items are.holders;
    lasts = are.lasts;
    firsts = are.firsts;
    named = λ i c f g has audit named. are.named i c f g (fewer i has) audit named;
    quiet = λ i m c has audit seg other. ⊎_elim
        (λ (same : m ≡ n). ap (shows_at items c) same ∙ none i c has audit (subst (IsSegmentAt items j) same seg))
        (λ (differs : m ≡ n → ⊥). are.quiet i m c (fewer i has) audit seg differs)
        (cases_eq m n);
  }

-- Where no segment came, all of each came.
pub none_came : (items : List Checked) (j n : ℕ) → (IsSegmentAt items j n → ⊥) → (i : ℕ) → IsSegmentAt items j i → HasAllCome items j n 0 i
none_came items j n none i seg k x at = (seg, λ same. absurd (none (subst (IsSegmentAt items j) same seg)))

-- ---- fewer challenges

pub hashed_less : (items : List Checked) (j n p : ℕ) (old new : List ℕ) (h : Hashes) → ((i : ℕ) → Contains new i → Contains old i) → AreHashed items j n p old h → AreHashed items j n p new h
hashed_less items j n p old new h fewer are = record {
  holders = are.holders;
  lasts = are.lasts;
  firsts = are.firsts;
  named = λ i c f g has audit named. are.named i c f g (fewer i has) audit named;
  quiet = λ i m c has audit seg other. are.quiet i m c (fewer i has) audit seg other;
}

-- ---- the same marks

pub hashed_same : (items : List Checked) (j n p : ℕ) (places : List ℕ) (g h : Hashes) → AreSame g h → AreHashed items j n p places g → AreHashed items j n p places h
hashed_same items j n p places g h same are = record {
  holders = subst (AreHolders items j n p) (sym same.holders) are.holders;
  lasts = subst StandByPairs (sym same.lasts) are.lasts;
  firsts = subst StandByPairs (sym same.firsts) are.firsts;
  named = λ i c f v has audit named. ⊎_elim
      (λ one. inl (subst (λ l. HasNaming l i f v) (sym same.lasts) one))
      (λ other. inr (subst (λ l. HasNaming l i f v) (sym same.firsts) other))
      (are.named i c f v has audit named);
  quiet = are.quiet;
}

-- ---- an item more

module _ (items : List Checked) (x : Checked) (j : ℕ) where
  abbrev more : List Checked
  more = items ++ x ∷ []

  abbrev n : ℕ
  n = length items

  old_segment : (i : ℕ) → IsSegmentAt more j i → i ≢ n → IsSegmentAt items j i
  old_segment i (c, at, own) other = ⊎_elim (λ was. (c, was, own)) (λ (new : (i ≡ n) × (c ≡ x)). absurd (other new.0)) (at_cases items x i c at)

  same_link : (i k : ℕ) (c : Checked) → slice_get items i ≡ Some c → link_at more i k ≡ link_at items i k
  same_link i k c at = ap (λ (o : Option Checked). link_by o k) (still_at items x i c at ∙ sym at)

  old_come : (i k : ℕ) → HasCome more j n 0 i k → IsSegmentAt items j i
  old_come i k (seg, up) = old_segment i seg (λ same. let lt = up same in absurd (omega (arith, lt)))

  come_old : (i k : ℕ) → IsSegmentAt items j i → HasCome items j n 0 i k
  come_old i k seg = (seg, λ same. let lt = slice_get_within items i seg.0 seg.1 in absurd (omega (arith, lt, same)))

  new_come : (i k : ℕ) → HasCome items j n 0 i k → HasCome more j n 0 i k
  new_come i k ((c, at, own), up) = ((c, still_at items x i c at, own), up)

  holders_grown : (holders : List Mark) → AreHolders items j n 0 holders → AreHolders more j n 0 holders
  holders_grown holders are = record {
    order = are.order;
    each = λ m has. let h = are.each m has in record { came = new_come m.item m.position h.came; link = h.link; here = same_link m.item m.position h.came.0.0 h.came.0.1 ∙ h.here; front = h.front };
    all = λ i k y came at.
        let seg = old_come i k came in
        let (m, has, is, far) = are.all i k y (come_old i k seg) (sym (same_link i k seg.0 seg.1) ∙ at) in
        let there = (are.each m has).came.0 in
        (m, has, same_link m.item m.position there.0 there.1 ∙ is, far);
    one = λ i k l m y z came_y came_z at_y at_z same.
        let seg_y = old_come i k came_y in
        let seg_z = old_come l m came_z in
        are.one i k l m y z (come_old i k seg_y) (come_old l m seg_z) (sym (same_link i k seg_y.0 seg_y.1) ∙ at_y) (sym (same_link l m seg_z.0 seg_z.1) ∙ at_z) same;
    based = λ i k y came at. let seg = old_come i k came in are.based i k y (come_old i k seg) (sym (same_link i k seg.0 seg.1) ∙ at);
  }

  old_audit : (places : List ℕ) → AscendBySpelling items places → (i : ℕ) (c : AuditChallenge) → Contains places i → IsAuditAt more i c → IsAuditAt items i c
  old_audit places spelled i c has (d, at, is) =
      let (e, there) = there_by items places spelled i has in
      let same : e ≡ d = same_Some e d (sym (still_at items x i e there) ∙ at) in
      (e, there, ap (λ (y : Checked). y.item.fields) same ∙ is)

  pub hashed_grown : (places : List ℕ) (h : Hashes) → AscendBySpelling items places → AreHashed items j n 0 places h → AreHashed more j n 0 places h
  hashed_grown places h spelled are = record {
    holders = holders_grown h.holders.items are.holders;
    lasts = are.lasts;
    firsts = are.firsts;
    named = λ i c f g has audit named. are.named i c f g has (old_audit places spelled i c has audit) named;
    quiet = λ i m c has audit seg other.
        let was = old_segment m seg other in
        ap (λ (o : Option Checked). shown_by o c) (still_at items x m was.0 was.1 ∙ sym was.1)
        ∙ are.quiet i m c has (old_audit places spelled i c has audit) was other;
  }

-- ---- the challenges of a table

pub asked_same : (items : List Checked) (n : ℕ) (t u : Table) → u.node ≡ t.node → u.unanswered ≡ t.unanswered → u.hashes ≡ t.hashes → AreAsked items n t → AreAsked items n u
asked_same items n t u node unanswered hashes asked = record {
  spelled = subst (λ v. AscendBySpelling items v.items) (sym unanswered) asked.spelled;
  hashed = λ whole.
      subst (λ j. AreHashed items j n 0 u.unanswered.items u.hashes) (sym node)
      (subst (λ v. AreHashed items t.node n 0 v.items u.hashes) (sym unanswered)
      (subst (AreHashed items t.node n 0 t.unanswered.items) (sym hashes) (asked.hashed (ap (λ h. h.whole) (sym hashes) ∙ whole))));
}

pub asked_roomier : (items : List Checked) (n : ℕ) (t u : Table) → u.node ≡ t.node → u.unanswered.items ≡ t.unanswered.items → AreSame t.hashes u.hashes → AreAsked items n t → AreAsked items n u
asked_roomier items n t u node unanswered same asked = record {
  spelled = subst (AscendBySpelling items) (sym unanswered) asked.spelled;
  hashed = λ whole.
      subst (λ j. AreHashed items j n 0 u.unanswered.items u.hashes) (sym node)
      (subst (λ v. AreHashed items t.node n 0 v u.hashes) (sym unanswered)
      (hashed_same items t.node n 0 t.unanswered.items t.hashes u.hashes same (asked.hashed (sym same.whole ∙ whole))));
}

pub asked_grown : (items : List Checked) (x : Checked) (t : Table) → AreAsked items (length items) t → AreAsked (items ++ x ∷ []) (length items) t
asked_grown items x t asked = record {
  spelled = asked_more items x t.unanswered.items asked.spelled;
  hashed = λ whole. hashed_grown items x t.node t.unanswered.items t.hashes asked.spelled (asked.hashed whole);
}

-- Where the item at the place is no segment of the node, nothing came by it.
pub asked_still : (items : List Checked) (n : ℕ) (t : Table) → (IsSegmentAt items t.node n → ⊥) → AreAsked items n t → AreAsked items (length items) t
asked_still items n t none asked = record {
  spelled = asked.spelled;
  hashed = λ whole. hashed_rest items t.node n 0 (none_came items t.node n none) t.unanswered.items t.unanswered.items t.hashes (asked.hashed whole) (λ i has. has) (λ i c has audit seg. absurd (none seg));
}

pub no_same : (h : Hashes) → AreSame h h
no_same h = record { whole = refl; holders = refl; lasts = refl; firsts = refl }

pub same_then : (g h k : Hashes) → AreSame g h → AreSame h k → AreSame g k
same_then g h k a b = record { whole = b.whole ∙ a.whole; holders = b.holders ∙ a.holders; lasts = b.lasts ∙ a.lasts; firsts = b.firsts ∙ a.firsts }
