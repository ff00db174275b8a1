-- What the tests tell of a list of items is what the set of them says.
use Rattle.std.proofs.Common.{◌≡◌, ℕ, Bool, true, false, not, cond, List, [], ◌∷◌, refl, sym, ap, ◌∙◌}
use Rattle.std.specs.Prelude.{◌&&◌, ◌||◌, ◌==◌, option_map, Option, Some, None, IfNone, IfSome, is_some}
use Rattle.std.specs.Bool.{Decides}
use Rattle.std.specs.List.{Contains, list_any}
use Rattle.authenticators.specs.declared.authenticator.Authenticator.{Authenticator}
use Rattle.authenticators.specs.Directory.{Listing}
use Rattle.log_chain.specs.declared.entry.Entry.{Entry}
use Rattle.log_chain.specs.declared.kind.TheConstants.{RECV}
use Rattle.replay_verifier.specs.Deviation.{quoted_hash, quoted_hashes, quotes_genuinely}
use Rattle.replay_verifier.specs.Quotes.{Quote, receipt_of, signed_hash}
use Rattle.item_forms.specs.Messages.{Message}
use Rattle.replay_verifier.specs.Meaning.{Meaning}
use Rattle.replay_verifier.specs.ReplayLaws.{DeviatingListsDoNotConform}
use Rattle.item_forms.specs.declared.forms.Fields.{Fields}
use Rattle.item_forms.specs.declared.forms.Fields.TheVariants as form
use Rattle.evidence_item.specs.declared.findings.Findings.{Findings}
use Rattle.evidence_item.specs.Checking.{Checked, findings_of}
use Rattle.evidence_set.specs.Challenges.{Answers, answers, answers_send, is_against, is_of_number, is_receipt_of}
use Rattle.evidence_set.specs.Indications.{IsExposed, IsUnanswered}
use Rattle.evidence_set.specs.ItemSets.{SomeItem, set_of}
use Rattle.evidence_set.proofs.AnswerTests.{answers_decide}
use Rattle.kept_evidence.specs.declared.exposure.Exposure.{Exposure}
use Rattle.kept_evidence.specs.declared.exposure.Exposure.TheVariants as exposure
use Rattle.kept_evidence.specs.Kept.{AreKept, HasHashes, HasHashesFor, IsStore, found_hashes}
use Rattle.kept_evidence.specs.Telling.{IsUnexposed, Shows, found_quotes, is_answered, is_told_receipt, is_unanswered, told_answers, told_receipt, told_send}
use Rattle.kept_evidence.proofs.Answered.{some_passes, one_suffices}
use Rattle.kept_evidence.proofs.Bridge.{some_item}
use Rattle.kept_evidence.proofs.Exposures.{denial_exposes, deviation_exposes, two_expose, unexposed}

-- ---- challenges

module _ (ds : Listing) (me : ℕ) (m : Message) where
  -- what was found of an entry tells whether it is a receipt
  receipt_told : (e : Entry) → is_told_receipt m e (quoted_hash ds me e) ≡ is_receipt_of ds me m e
  receipt_told e = go (receipt_of e.content) (e.kind == RECV)
    where
      by_quote : (b : Bool) (q : Quote) → (is_some (cond b (Some (signed_hash me q)) None) && is_of_number m (Some q)) ≡ (b && is_of_number m (Some q))
      by_quote true q = refl
      by_quote false q = refl

      go : (o : Option Quote) (k : Bool) → (is_some (cond (k && quotes_genuinely ds me o) (option_map (signed_hash me) o) None) && is_of_number m o) ≡ ((k && quotes_genuinely ds me o) && is_of_number m o)
      go None true = refl
      go None false = refl
      go (Some q) k = by_quote (k && quotes_genuinely ds me (Some q)) q

  receipts_told : (es : List Entry) → told_receipt m es (quoted_hashes ds me es) ≡ list_any (is_receipt_of ds me m) es
  receipts_told [] = refl
  receipts_told (e ∷ es) = λ i. receipt_told e i || receipts_told es i

-- what was found of an item tells whether it answers
send_told : (ds : Listing) (m : Message) (y : Fields) (f : Option Findings) → f ≡ findings_of ds y → told_send m y f ≡ answers_send ds m y
send_told ds m (form.Auth a) f is = refl
send_told ds m (form.Segment s) f is =
    ap (λ (x : Option Findings). (s.node == m.to) && told_receipt m s.entries (found_quotes x)) is
    ∙ ap (λ (b : Bool). (s.node == m.to) && b) (receipts_told ds s.node m s.entries)
send_told ds m (form.Audit c) f is = refl
send_told ds m (form.Send n) f is = refl
send_told ds m (form.Ack a) f is = refl

answer_told : (ds : Listing) (x : Fields) (c : Checked) → c.findings ≡ findings_of ds c.item.fields → told_answers x c ≡ answers ds x c.item.fields
answer_told ds (form.Auth a) c is = refl
answer_told ds (form.Segment s) c is = refl
answer_told ds (form.Audit d) c is = refl
answer_told ds (form.Send m) c is = send_told ds m c.item.fields c.findings is
answer_told ds (form.Ack a) c is = refl

abbrev pub AreFound : Listing → List Checked → Type 0
AreFound ds kept = (c : Checked) → Contains kept c → c.findings ≡ findings_of ds c.item.fields

answered_decides : (ds : Listing) (kept : List Checked) (x : Fields) → AreFound ds kept → Decides (is_answered kept x) (SomeItem (set_of kept) (Answers ds x))
answered_decides ds kept x found = (
  λ h.
      let one = some_passes (told_answers x) kept h in
      (some_item kept (Answers ds x)).1 (one.0, one.1, (answers_decide ds x one.0.item.fields).0 (sym (answer_told ds x one.0 (found one.0 one.1)) ∙ one.2)),
  λ h.
      let one = (some_item kept (Answers ds x)).0 h in
      one_suffices (told_answers x) kept one.0 one.1 (answer_told ds x one.0 (found one.0 one.1) ∙ (answers_decide ds x one.0.item.fields).1 one.2),
)

both : (a b : Bool) → (a && not b) ≡ true → (a ≡ true) × (b ≡ false)
both true true h = absurd cc
both true false h = (refl, refl)
both false b h = absurd cc

not_both : (a b : Bool) → a ≡ true → (b ≡ true → ⊥) → (a && not b) ≡ true
not_both a true is never = absurd (never refl)
not_both true false is never = refl
not_both false false is never = absurd cc

pub unanswered_decides : (ds : Listing) (kept : List Checked) (j : ℕ) (x : Fields) → AreFound ds kept → Decides (is_unanswered kept j x) (IsUnanswered ds (set_of kept) j x)
unanswered_decides ds kept j x found = (
  λ h.
      let t = both (is_against j x) (is_answered kept x) h in
      record {
        against = t.0;
        unanswered = λ some. let answered = (answered_decides ds kept x found).1 some in cc (t.1, answered);
      },
  λ h. not_both (is_against j x) (is_answered kept x) h.against (λ answered. h.unanswered ((answered_decides ds kept x found).0 answered)),
)

-- Some challenge is open in the list just where one is in the set.
pub suspected_decides : (ds : Listing) (kept : List Checked) (j : ℕ) → AreFound ds kept
    → Decides (list_any (λ (c : Checked). is_unanswered kept j c.item.fields) kept) (SomeItem (set_of kept) (IsUnanswered ds (set_of kept) j))
suspected_decides ds kept j found = (
  λ h.
      let one = some_passes (λ (c : Checked). is_unanswered kept j c.item.fields) kept h in
      (some_item kept (IsUnanswered ds (set_of kept) j)).1 (one.0, one.1, (unanswered_decides ds kept j one.0.item.fields found).0 one.2),
  λ h.
      let one = (some_item kept (IsUnanswered ds (set_of kept) j)).0 h in
      one_suffices (λ (c : Checked). is_unanswered kept j c.item.fields) kept one.0 one.1 ((unanswered_decides ds kept j one.0.item.fields found).1 one.2),
)

-- ---- what is kept

hashes_by : (ds : Listing) (x : Fields) (f : Option Findings) → f ≡ findings_of ds x → HasHashesFor x f
hashes_by ds (form.Auth a) f is = tt
hashes_by ds (form.Segment s) f is = ap found_hashes is
hashes_by ds (form.Audit c) f is = tt
hashes_by ds (form.Send m) f is = tt
hashes_by ds (form.Ack a) f is = tt

module _ {S : Type 0} (ds : Listing) (program : Meaning S) (kept : List Checked) where
  pub are_found : AreKept ds program kept → AreFound ds kept
  are_found all c has = (all.whole c has).found

  -- Of each segment that is kept the hashes of its entries are there.
  pub hashes_are_there : AreKept ds program kept → (c : Checked) → Contains kept c → HasHashes c
  hashes_are_there all c has = hashes_by ds c.item.fields c.findings (all.whole c has).found

  module _ (differ : DeviatingListsDoNotConform S) (held : List Authenticator) (j : ℕ) (store : IsStore ds program kept held) where
    -- What was found in the store exposes the node.
    pub exposes : {P : Type 0} (e : Exposure P) → Shows j held kept e → IsExposed ds program (set_of kept) j
    exposes (exposure.TwoHashes a b) h = two_expose ds program differ kept held j store a.now b.now h
    exposes (exposure.Denied d) h = denial_exposes ds program differ kept held j store d.statement.now d.segment.now h
    exposes (exposure.Deviates c) h = deviation_exposes ds program differ kept held j store c.now h

    -- A search that tells both of what it found and of what it did not find decides whether the node is exposed.
    pub exposed_decides : {P : Type 0} (found : Option (Exposure P)) (b : Bool) → b ≡ is_some found → IfNone found (IsUnexposed j held kept) → IfSome found (λ e. Shows j held kept e) → Decides b (IsExposed ds program (set_of kept) j)
    exposed_decides None b is none some = (λ told. absurd (cc (is, told)), λ exposed. absurd (unexposed ds program differ kept held j store none exposed))
    exposed_decides (Some e) b is none some = (λ told. exposes e some, λ exposed. is)
