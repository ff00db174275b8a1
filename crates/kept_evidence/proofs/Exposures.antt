-- What exposes a node by the lists of a store exposes it by the set, and what does not, does not.
use Rattle.std.proofs.Common.{◌≡◌, ℕ, true, false, List, refl, sym, ap, subst, ◌∙◌, inl, inr}
use Rattle.std.specs.Prelude.{Option, Some, None}
use Rattle.std.specs.List.{Contains}
use Rattle.authenticators.specs.declared.authenticator.Authenticator.{Authenticator}
use Rattle.authenticators.specs.Directory.{Listing}
use Rattle.replay_verifier.specs.Conforming.{Conforms, setting_of}
use Rattle.replay_verifier.specs.Meaning.{Meaning}
use Rattle.replay_verifier.specs.ReplayLaws.{DeviatingListsDoNotConform}
use Rattle.replay_verifier.specs.declared.verdict.Verdict.{Verdict}
use Rattle.replay_verifier.specs.declared.verdict.Verdict.TheVariants as verdict
use Rattle.item_forms.specs.declared.forms.Fields.{Fields}
use Rattle.item_forms.specs.declared.forms.Fields.TheVariants as form
use Rattle.item_forms.specs.declared.forms.Segment.{Segment}
use Rattle.proofs.specs.Contradictions.{contradicts}
use Rattle.proofs.proofs.Contradicting.{contradicts-decides}
use Rattle.evidence_item.specs.Checking.{Checked, IsOwnVerdict}
use Rattle.evidence_set.specs.Indications.{Denies, DoesNotConform, HasSegment, IsExposed, SaysTwo}
use Rattle.evidence_set.specs.ItemSets.{set_of}
use Rattle.kept_evidence.specs.Kept.{IsStore}
use Rattle.kept_evidence.specs.Telling.{AreTwo, IsDenial, IsDeviation, IsKeptOf, IsSegmentOf, IsUnexposed, denies, deviates}
use Rattle.kept_evidence.proofs.Bridge.{is_held, some_item}

-- ---- segments

segment_of : (x : Fields) (s : Segment) (j : ℕ) → x ≡ form.Segment s → s.node ≡ j → IsSegmentOf j x
segment_of x s j is node = subst (λ (y : Fields). IsSegmentOf j y) (sym is) node

-- a segment of the set is kept
kept_segment : (kept : List Checked) (j : ℕ) (s : Segment) → HasSegment (set_of kept) j s → (c : Checked) × IsKeptOf j kept c × (c.item.fields ≡ form.Segment s)
kept_segment kept j s has =
    let some = (some_item kept (λ x. x ≡ form.Segment s)).0 has.stands in
    (some.0, record { contains = some.1; segment = segment_of some.0.item.fields s j some.2 has.of }, some.2)

-- and a segment that is kept is of the set
has_segment : (kept : List Checked) (j : ℕ) (c : Checked) (s : Segment) → Contains kept c → c.item.fields ≡ form.Segment s → s.node ≡ j → HasSegment (set_of kept) j s
has_segment kept j c s contains is node = record { of = node; stands = (some_item kept (λ x. x ≡ form.Segment s)).1 (c, contains, is) }

-- ---- verdicts

module _ {S : Type 0} (ds : Listing) (program : Meaning S) (differ : DeviatingListsDoNotConform S) where
  conforms : (s : Segment) (v : Option Verdict) → IsOwnVerdict ds program (form.Segment s) v → deviates v ≡ false → Conforms (setting_of ds s.node program) s.prev s.entries
  conforms s None own h = absurd own
  conforms s (Some verdict.Conforms) own h = own
  conforms s (Some (verdict.Deviates at why)) own h = absurd cc

  pub departs : (s : Segment) (v : Option Verdict) → IsOwnVerdict ds program (form.Segment s) v → deviates v ≡ true → Conforms (setting_of ds s.node program) s.prev s.entries → ⊥
  departs s None own h all = absurd own
  departs s (Some verdict.Conforms) own h all = absurd cc
  departs s (Some (verdict.Deviates at why)) own h all = differ (setting_of ds s.node program) s.prev s.entries at why own all

  module _ (kept : List Checked) (held : List Authenticator) (j : ℕ) (store : IsStore ds program kept held) where
    -- ---- nothing exposes

    own_verdict : (c : Checked) (s : Segment) → Contains kept c → c.item.fields ≡ form.Segment s → IsOwnVerdict ds program (form.Segment s) c.verdict
    own_verdict c s contains is = subst (λ (y : Fields). IsOwnVerdict ds program y c.verdict) is (store.items.whole c contains).checked.verdict

    not_two : IsUnexposed j held kept → SaysTwo ds (set_of kept) j → ⊥
    not_two un h =
        let one = (is_held ds kept held j h.one store.statements).0 h.one_held in
        let other = (is_held ds kept held j h.other store.statements).0 h.other_held in
        un.one_hash h.one h.other one.0 other.0 one.1 h.conflict

    not_denied : IsUnexposed j held kept → Denies ds (set_of kept) j → ⊥
    not_denied un h =
        let a = (is_held ds kept held j h.statement store.statements).0 h.held in
        let c = kept_segment kept j h.segment h.has in
        let no : contradicts h.statement.seq h.statement.hash h.segment ≡ false = ap (denies h.statement) (sym c.2) ∙ un.undenied c.0 c.1 h.statement a.0 a.1 in
        let yes : contradicts h.statement.seq h.statement.hash h.segment ≡ true = (contradicts-decides h.statement.seq h.statement.hash h.segment).1 h.contradicts in
        absurd (cc (no, yes))

    all_conform : IsUnexposed j held kept → DoesNotConform ds program (set_of kept) j → ⊥
    all_conform un h =
        let c = kept_segment kept j h.segment h.has in
        let own = own_verdict c.0 h.segment c.1.contains c.2 in
        h.deviates (subst (λ (n : ℕ). Conforms (setting_of ds n program) h.segment.prev h.segment.entries) h.has.of (conforms h.segment c.0.verdict own (un.conforming c.0 c.1)))

    pub unexposed : IsUnexposed j held kept → IsExposed ds program (set_of kept) j → ⊥
    unexposed un e = elim e [
      | inl two ↦ not_two un two
      | inr more ↦ elim more [ inl denied ↦ not_denied un denied | inr deviates ↦ all_conform un deviates ]
    ]

    -- ---- what exposes

    pub two_expose : (a b : Authenticator) → AreTwo j held a b → IsExposed ds program (set_of kept) j
    two_expose a b h = inl (record {
      one = a;
      other = b;
      one_held = (is_held ds kept held j a store.statements).1 (h.one, h.of);
      other_held = (is_held ds kept held j b store.statements).1 (h.other, sym h.conflict.one_node ∙ h.of);
      conflict = h.conflict;
    })

    denial_exposes_by : (a : Authenticator) (c : Checked) (x : Fields) → c.item.fields ≡ x → Contains held a → a.node ≡ j → Contains kept c → IsSegmentOf j x → denies a x ≡ true → IsExposed ds program (set_of kept) j
    denial_exposes_by a c (form.Segment s) is statement of contains node h = inr (inl (record {
      statement = a;
      segment = s;
      held = (is_held ds kept held j a store.statements).1 (statement, of);
      has = has_segment kept j c s contains is node;
      contradicts = (contradicts-decides a.seq a.hash s).0 h;
    }))
    denial_exposes_by a c (form.Auth b) is statement of contains node h = absurd node
    denial_exposes_by a c (form.Audit b) is statement of contains node h = absurd node
    denial_exposes_by a c (form.Send b) is statement of contains node h = absurd node
    denial_exposes_by a c (form.Ack b) is statement of contains node h = absurd node

    pub denial_exposes : (a : Authenticator) (c : Checked) → IsDenial j held kept a c → IsExposed ds program (set_of kept) j
    denial_exposes a c h = denial_exposes_by a c c.item.fields refl h.statement h.of h.segment.contains h.segment.segment h.contradicts

    deviation_exposes_by : (c : Checked) (x : Fields) → c.item.fields ≡ x → Contains kept c → IsSegmentOf j x → deviates c.verdict ≡ true → IsExposed ds program (set_of kept) j
    deviation_exposes_by c (form.Segment s) is contains node h = inr (inr (record {
      segment = s;
      has = has_segment kept j c s contains is node;
      deviates = λ all. departs s c.verdict (own_verdict c s contains is) h (subst (λ (n : ℕ). Conforms (setting_of ds n program) s.prev s.entries) (sym node) all);
    }))
    deviation_exposes_by c (form.Auth b) is contains node h = absurd node
    deviation_exposes_by c (form.Audit b) is contains node h = absurd node
    deviation_exposes_by c (form.Send b) is contains node h = absurd node
    deviation_exposes_by c (form.Ack b) is contains node h = absurd node

    pub deviation_exposes : (c : Checked) → IsDeviation j kept c → IsExposed ds program (set_of kept) j
    deviation_exposes c h = deviation_exposes_by c c.item.fields refl h.segment.contains h.segment.segment h.verdict
