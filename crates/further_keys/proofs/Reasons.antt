-- A deviation for another reason than a quote that is not genuine stays, whatever the entry there quotes.
use Rattle.std.proofs.Common.{◌≡◌, ◌==◌, ◌&&◌, ℕ, ◌≤◌, ◌<◌, Bool, true, false, cond, List, [], ◌∷◌, ◌++◌, length, Option, Some, refl, sym, ap, ◌∙◌, subst, append_assoc, arith, inl, inr}
use Rattle.std.specs.Prelude.{◌≢◌, ◌⊎◌, not}
use Rattle.std.proofs.lemmas.Bool.{and_parts, eqb-true, lt-leb}
use Rattle.std.proofs.lemmas.Slice.Eq.{bytes_eq-Decides}
use Rattle.std.specs.Str.{bytes_eq}
use Rattle.log_chain.specs.declared.entry.Entry.{Entry}
use Rattle.log_chain.specs.declared.kind.TheConstants.{CHECKPOINT, INIT, RECV, SEND}
use Rattle.log_chain.specs.Chain.{Rising, base}
use Rattle.authenticators.specs.Directory.{Listing}
use Rattle.replay_verifier.specs.declared.verdict.Reason.{Reason}
use Rattle.replay_verifier.specs.declared.verdict.Reason.TheVariants as reason
use Rattle.replay_verifier.specs.Conforming.{Act, Conforms, PrefixesConform, Setting, act, is_repeated, setting_of}
use Rattle.replay_verifier.specs.Deviation.{DeviatesAt, EndsAt, Position, After, awaited_at, first_line, is_at_rest, is_bad_content, is_bad_init, is_bad_kind, is_other, is_other_state, is_out_of_order, last_number, quotes_genuinely, reason_behind}
use Rattle.replay_verifier.specs.Meaning.{Meaning}
use Rattle.replay_verifier.specs.Quotes.{TestsQuotes, receipt_of}
use Rattle.replay_verifier.specs.ReplayLaws.{ConformingListsAreProper, ConformingListsBegin, ConformingListsRise}
use Rattle.further_keys.specs.FurtherKeys.{HasFurtherKeys}
use Rattle.further_keys.proofs.Lists.{front_or_longer}
use Rattle.further_keys.proofs.Verdicts.{conforms_new, deviates_new, leaves_new, quote_new}

-- ---- the table, of which the line on quotes may no longer hold

abbrev chosen : Option Reason → Bool → Bool → Bool → Bool → Bool → Option Reason
chosen rest o i k c b =
    cond o (Some reason.SeqOrder) (cond i (Some reason.BadInit) (cond k (Some reason.BadKind) (cond c (Some reason.BadContent) (cond b (Some reason.BadReceipt) rest))))

keeps : (rest : Option Reason) (o i k c old new : Bool) (why : Reason) → why ≢ reason.BadReceipt → (new ≡ true → old ≡ true) → chosen rest o i k c old ≡ Some why → chosen rest o i k c new ≡ Some why
keeps rest true i k c old new why other from e = e
keeps rest false true k c old new why other from e = e
keeps rest false false true c old new why other from e = e
keeps rest false false false true old new why other from e = e
keeps rest false false false false true new why other from e = let is : why ≡ reason.BadReceipt = cc in absurd (other is)
keeps rest false false false false false false why other from e = e
keeps rest false false false false false true why other from e = let no : false ≡ true = from refl in absurd cc

refused : (rest : Option Reason) (o i k c : Bool) (why : Reason) → (o ≡ false) × (i ≡ false) × (k ≡ false) × (c ≡ false) → chosen rest o i k c true ≡ Some why → why ≡ reason.BadReceipt
refused rest false false false false why f e = cc
refused rest true i k c why f e = let no : true ≡ false = f.0 in absurd cc
refused rest false true k c why f e = let no : true ≡ false = f.1 in absurd cc
refused rest false false true c why f e = let no : true ≡ false = f.2 in absurd cc
refused rest false false false true why f e = let no : true ≡ false = f.3 in absurd cc

-- what is not genuine with the further keys was not genuine before
less : (b new old : Bool) → (old ≡ true → new ≡ true) → (b && not new) ≡ true → (b && not old) ≡ true
less false new old f e = absurd cc
less true true old f e = absurd cc
less true false false f e = refl
less true false true f e = let no : false ≡ true = f refl in absurd cc

genuine_before : (b new old : Bool) → (b && not old) ≡ false → (b && new) ≡ true → (b && old) ≡ true
genuine_before false new old e g = absurd cc
genuine_before true new true e g = refl
genuine_before true new false e g = absurd cc

cases_test : (b : Bool) → (b ≡ true) ⊎ (b ≡ false)
cases_test true = inl refl
cases_test false = inr refl

-- ---- the lines above it, at an entry that conforms behind the others

above_all : (d : Entry) (log : List Entry) (e : Entry) → Rising ((d ∷ log) ++ e ∷ []) → last_number d.seq log < e.seq
above_all d [] e r = r.0
above_all d (f ∷ log) e r = above_all f log e r.1

module _ {S : Type 0} (rise : ConformingListsRise S) (begin : ConformingListsBegin S) (proper : ConformingListsAreProper S) (z : Setting S) (prev : List ℕ) where
  abbrev AreFine : Position S → Entry → Type 0
  AreFine place e = (is_out_of_order place e ≡ false) × (is_bad_init z prev place e ≡ false) × (is_bad_kind prev place e ≡ false) × (is_bad_content z place e ≡ false)

  no_first : (e : Entry) → e.kind ≡ RECV → Conforms z prev (e ∷ []) → ⊥
  no_first e kind c = elim (cases_test (bytes_eq prev base)) [
    | inl is ↦
        let init = begin.with_init z e [] (subst (λ (p : List ℕ). Conforms z p (e ∷ [])) ((bytes_eq-Decides prev base).0 is) c) in
        let no : RECV ≡ INIT = sym kind ∙ ap (λ (a : Act). a.kind) init in absurd cc
    | inr differ ↦
        let point = begin.with_checkpoint z prev e [] (λ same. let is = (bytes_eq-Decides prev base).1 same in absurd cc) c in
        let no : RECV ≡ CHECKPOINT = sym kind ∙ point.0 in absurd cc
  ]

  fine : (before : List Entry) (e : Entry) (place : Position S) → e.kind ≡ RECV → EndsAt z prev before place → Conforms z prev (before ++ e ∷ []) → AreFine place e
  fine [] e place kind l c = absurd (no_first e kind c)
  fine (d ∷ log) e place kind l c =
      let q = proper.receipts z prev (d ∷ log) [] e c kind in
      let short : is_bad_content z (After (last_number d.seq log) l.2) e ≡ false = rw (kind, q.1, q.2) refl in
      let known : is_bad_kind prev (After (last_number d.seq log) l.2) e ≡ false = rw kind refl in
      subst (λ (p : Position S). AreFine p e) (sym l.4)
      (lt-leb e.seq (last_number d.seq log) (above_all d log e (rise z prev ((d ∷ log) ++ e ∷ []) c)), refl, known, short)

-- ---- the deviation

module _ {S : Type 0} (old new : Listing) (h : HasFurtherKeys old new) (me : ℕ) (program : Meaning S) where
  abbrev Old : Setting S
  Old = setting_of old me program

  abbrev New : Setting S
  New = setting_of new me program

  abbrev rest_of : List Entry → Position S → Entry → Option Reason
  rest_of before place e = first_line (
      (not (is_at_rest (awaited_at place)) && not (e.kind == SEND), reason.MissingOutput)
      ∷ (is_at_rest (awaited_at place) && (e.kind == SEND), reason.ExtraOutput)
      ∷ ((e.kind == SEND) && is_other (awaited_at place) (act e), reason.WrongOutput)
      ∷ ((e.kind == 5) && is_other_state Old place e.content, reason.WrongCheckpoint)
      ∷ (is_repeated before e, reason.DuplicateReceipt)
      ∷ [])

  abbrev is_refused : Listing → Entry → Bool
  is_refused ds e = (e.kind == RECV) && not (quotes_genuinely ds me (receipt_of e.content))

  line_new : (prev : List ℕ) (before : List Entry) (place : Position S) (e : Entry) (why : Reason) → why ≢ reason.BadReceipt → reason_behind Old prev before place e ≡ Some why → reason_behind New prev before place e ≡ Some why
  line_new prev before place e why other line =
      keeps (rest_of before place e) (is_out_of_order place e) (is_bad_init Old prev place e) (is_bad_kind prev place e) (is_bad_content Old place e) (is_refused old e) (is_refused new e) why other
      (less (e.kind == RECV) (quotes_genuinely new me (receipt_of e.content)) (quotes_genuinely old me (receipt_of e.content)) (quote_new old new h me program (receipt_of e.content))) line

  module _ (tests : TestsQuotes) (rise : ConformingListsRise S) (begin : ConformingListsBegin S) (proper : ConformingListsAreProper S) (prefixes : PrefixesConform S) where
    -- the entry does not conform there with the further keys either
    no_more : (prev : List ℕ) (log : List Entry) (at : ℕ) (why : Reason) → why ≢ reason.BadReceipt → (d : DeviatesAt Old prev log at why) → is_refused old d.entry ≡ true → Conforms New prev (d.before ++ d.entry ∷ []) → ⊥
    no_more prev log at why other d is here =
        let kind = eqb-true d.entry.kind RECV (and_parts (d.entry.kind == RECV) (not (quotes_genuinely old me (receipt_of d.entry.content))) is).0 in
        let all = fine rise begin proper New prev d.before d.entry d.place kind (leaves_new old new h me program prev d.before d.place d.leaves) here in
        let line : chosen (rest_of d.before d.place d.entry) (is_out_of_order d.place d.entry) (is_bad_init Old prev d.place d.entry) (is_bad_kind prev d.place d.entry) (is_bad_content Old d.place d.entry) true ≡ Some why =
        subst (λ (b : Bool). chosen (rest_of d.before d.place d.entry) (is_out_of_order d.place d.entry) (is_bad_init Old prev d.place d.entry) (is_bad_kind prev d.place d.entry) (is_bad_content Old d.place d.entry) b ≡ Some why) is d.line in
        other (refused (rest_of d.before d.place d.entry) (is_out_of_order d.place d.entry) (is_bad_init Old prev d.place d.entry) (is_bad_kind prev d.place d.entry) (is_bad_content Old d.place d.entry) why all line)

    newly : (prev : List ℕ) (log : List Entry) (at : ℕ) (why : Reason) → why ≢ reason.BadReceipt → (d : DeviatesAt Old prev log at why) → is_refused old d.entry ≡ true → DeviatesAt New prev log at why
    newly prev log at why other d is = record {
      before = d.before;
      entry = d.entry;
      behind = d.behind;
      parts = d.parts;
      at_is = d.at_is;
      conforms = conforms_new old new h me program prev d.before d.conforms;
      longest = λ front back p c. most front back p c;
      place = d.place;
      leaves = leaves_new old new h me program prev d.before d.place d.leaves;
      line = line_new prev d.before d.place d.entry why other d.line;
    }
      where
        most : (front back : List Entry) → log ≡ front ++ back → Conforms New prev front → length front ≤ at
        most front back p c = elim (front_or_longer d.before d.entry d.behind front back (sym d.parts ∙ p)) [
          | inl l ↦ omega (arith, l, d.at_is)
          | inr m ↦
              let longer : Conforms New prev ((d.before ++ d.entry ∷ []) ++ m.0) = subst (Conforms New prev) (m.1 ∙ sym (append_assoc d.before (d.entry ∷ []) m.0)) c in
              absurd (no_more prev log at why other d is (prefixes New prev (d.before ++ d.entry ∷ []) m.0 longer))
        ]

    pub stays : (prev : List ℕ) (log : List Entry) (at : ℕ) (why : Reason) → why ≢ reason.BadReceipt → DeviatesAt Old prev log at why → DeviatesAt New prev log at why
    stays prev log at why other d = elim (cases_test (is_refused old d.entry)) [
      | inl is ↦ newly prev log at why other d is
      | inr is ↦
          deviates_new old new h me program tests proper prefixes prev log at why d
          (genuine_before (d.entry.kind == RECV) (quotes_genuinely new me (receipt_of d.entry.content)) (quotes_genuinely old me (receipt_of d.entry.content)) is)
    ]
