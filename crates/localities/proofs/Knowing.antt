-- Whether anything is known of a node.
use Rattle.std.proofs.Common.{◌≡◌, ℕ, Bool, true, false, refl, sym, subst, ◌⊎◌, inl, inr}
use Rattle.std.specs.Prelude.{IsTrue}
use Rattle.std.specs.List.{list_any}
use Rattle.authenticators.specs.Directory.{Listing, is_listed, keys_at}
use Rattle.authenticators.specs.Statement.{KeysSign, statement_text}
use Rattle.replay_verifier.specs.Meaning.{Meaning}
use Rattle.item_forms.specs.declared.forms.Fields.{Fields}
use Rattle.item_forms.specs.declared.forms.Fields.TheVariants as form
use Rattle.item_forms.specs.declared.forms.Segment.{Segment}
use Rattle.item_forms.specs.Pieces.{Piece}
use Rattle.evidence_item.specs.CheckingLaws.{ValidItemsAreSigned}
use Rattle.evidence_set.specs.Challenges.{TestsAnswers, answers, is_against}
use Rattle.evidence_set.specs.Held.{HeldStatementsAreSigned}
use Rattle.evidence_set.specs.Indications.{HasSegment, IsExposed, IsUnanswered}
use Rattle.evidence_set.specs.ItemSets.{Items, Has, IsWithin, SetsAreLists, SomeItem, listed}
use Rattle.evidence_set.specs.Valid.{AreValid}
use Rattle.localities.specs.Concerning.{Concerns, ConcernsAsExpected, Tells, concerned}
use Rattle.localities.specs.Extracts.{IsExtract}
use Rattle.localities.specs.Known.{HasStatement, IsKnown, KnownAsExpected, UnknownAreTrusted, is_known}
use Rattle.localities.specs.Parts.{is_of}
use Rattle.localities.proofs.Concerned.{against_named, answer_tells, segment_tells}
use Rattle.localities.proofs.Extracted.{against_own}
use Rattle.localities.proofs.Picked.{is_among, passes_some, some_passes}

-- ---- an item that concerns the node

module _ (ds : Listing) (j : ℕ) where
  told_known : (E : Items) (x : Piece) → Has E x → Tells ds x.fields j → HasStatement ds E j
  told_known E x has t = (t.statement, record { of = t.of; stands = (x, has, t.stands) })

  known_by : (E : Items) (x : Piece) → Has E x → Concerns ds x.fields j → IsKnown ds E j
  known_by E x has (inl t) = inl (told_known E x has t)
  known_by E x has (inr against) = inr (x, has, against)

  known_concerns : (E : Items) → IsKnown ds E j → SomeItem E (λ x. Concerns ds x j)
  known_concerns E (inl (a, h)) = (h.stands.0, h.stands.1, inl (record { statement = a; of = h.of; stands = h.stands.2 }))
  known_concerns E (inr some) = (some.0, some.1, inr some.2)

  grows : (A B : Items) → IsWithin A B → IsKnown ds A j → IsKnown ds B j
  grows A B more known = let some = known_concerns A known in known_by B some.0 (more some.0 some.1) some.2

  -- ---- the test

  module _ (concerns : ConcernsAsExpected) (lists : SetsAreLists) where
    tested : (E : Items) → IsTrue (is_known ds E j) → IsKnown ds E j
    tested E h =
        let s = some_passes (is_of ds j) (listed E) h in
        known_by E s.0 ((lists.members E s.0).0 s.1) ((concerns.listed ds s.0.fields j).0 ((is_among (concerned ds s.0.fields) j).0 s.2))

    passes : (E : Items) → IsKnown ds E j → IsTrue (is_known ds E j)
    passes E known =
        let some = known_concerns E known in
        passes_some (is_of ds j) (listed E) some.0 ((lists.members E some.0).1 some.1) ((is_among (concerned ds some.0.fields) j).1 ((concerns.listed ds some.0.fields j).1 some.2))

  -- ---- challenges

  module _ (lists : SetsAreLists) (tests : TestsAnswers) (E : Items) where
    -- what answers the challenge holds a statement of the node; or nothing does
    by_answer : (b : Bool) (x : Piece) → Has E x → IsTrue (is_against j x.fields) → list_any (λ (y : Piece). answers ds x.fields y.fields) (listed E) ≡ b → HasStatement ds E j ⊎ SomeItem E (IsUnanswered ds E j)
    by_answer true x has against some =
        let s = some_passes (λ (y : Piece). answers ds x.fields y.fields) (listed E) some in
        inl (told_known E s.0 ((lists.members E s.0).0 s.1) (answer_tells ds x.fields s.0.fields j against ((tests ds x.fields s.0.fields).0 s.2)))
    by_answer false x has against none =
        inr (
          x,
          has,
          record {
            against = against;
            unanswered = λ some.
                let there = passes_some (λ (y : Piece). answers ds x.fields y.fields) (listed E) some.0 ((lists.members E some.0).1 some.1) ((tests ds x.fields some.0.fields).1 some.2) in
                absurd cc;
          },
        )

    open_suffice : IsKnown ds E j → HasStatement ds E j ⊎ SomeItem E (IsUnanswered ds E j)
    open_suffice (inl held) = inl held
    open_suffice (inr some) = by_answer (list_any (λ (y : Piece). answers ds some.0.fields y.fields) (listed E)) some.0 some.1 some.2 refl

    open_known : HasStatement ds E j ⊎ SomeItem E (IsUnanswered ds E j) → IsKnown ds E j
    open_known (inl held) = inl held
    open_known (inr some) = inr (some.0, some.1, some.2.against)

  -- ---- listed nodes

  module _ (keys : KeysSign) (signed : HeldStatementsAreSigned) (valid : ValidItemsAreSigned) (E : Items) (all : AreValid ds E) where
    of_listed : IsKnown ds E j → IsTrue (is_listed ds j)
    of_listed (inl (a, h)) =
        let by_key = signed ds h.stands.0.fields a (all h.stands.0 h.stands.1) h.stands.2 in
        subst (λ (n : ℕ). IsTrue (is_listed ds n)) h.of (keys.some (keys_at ds a.node) (statement_text a.seq a.hash) a.sig by_key)
    of_listed (inr some) =
        let named = against_named some.0.fields j some.2 in
        subst (λ (n : ℕ). IsTrue (is_listed ds n)) named.2 (valid.nodes ds some.0.fields (all some.0 some.1) named.0 j named.1)

  -- ---- extracts

  module _ (E X : Items) (is : IsExtract ds j E X) where
    known_there : IsKnown ds X j → IsKnown ds E j
    known_there known =
        let some = known_concerns X known in
        elim (is.sound some.0 some.1 some.2) [
          | inl has ↦ known_by E some.0 has some.2
          | inr copy ↦ inl (copy.statement, copy.held)
        ]

    known_here : IsKnown ds E j → IsKnown ds X j
    known_here (inl (a, h)) = let said = is.said a h in inl (said.statement, said.held)
    known_here (inr some) = inr (some.0, is.own some.0 some.1 (against_own some.0.fields j some.2), some.2)

pub as_expected : ConcernsAsExpected → SetsAreLists → TestsAnswers → KeysSign → HeldStatementsAreSigned → ValidItemsAreSigned → KnownAsExpected
as_expected concerns lists tests keys signed valid = record {
  test = λ ds E j. (tested ds j concerns lists E, passes ds j concerns lists E);
  concerning = λ ds E j. (known_concerns ds j E, λ some. known_by ds j E some.0 some.1 some.2);
  open_challenges = λ ds E j. (open_suffice ds j lists tests E, open_known ds j lists tests E);
  grows = λ ds A B j more known. grows ds j A B more known;
  of_listed = λ ds E j all known. of_listed ds j keys signed valid E all known;
  extract = λ ds j E X is. (known_there ds j E X is, known_here ds j E X is);
}

-- ---- who is suspected or exposed is known

segment_known : (ds : Listing) (E : Items) (j : ℕ) (s : Segment) → HasSegment E j s → HasStatement ds E j
segment_known ds E j s h =
    let own : Tells ds (form.Segment s) j = subst (Tells ds (form.Segment s)) h.of (segment_tells ds s) in
    told_known ds j E h.stands.0 h.stands.1 (subst (λ (f : Fields). Tells ds f j) (sym h.stands.2) own)

exposed_known : {S : Type 0} (ds : Listing) (program : Meaning S) (E : Items) (j : ℕ) → IsExposed ds program E j → IsKnown ds E j
exposed_known ds program E j (inl two) = inl (two.one, two.one_held)
exposed_known ds program E j (inr (inl d)) = inl (d.statement, d.held)
exposed_known ds program E j (inr (inr n)) = inl (segment_known ds E j n.segment n.has)

pub unknown_trusted : {S : Type 0} → UnknownAreTrusted S
unknown_trusted ds program E j unknown = (λ e. unknown (exposed_known ds program E j e), λ some. unknown (inr (some.0, some.1, some.2.against)))
