-- What further keys change of a verdict: nothing, but for quotes that are genuine with them alone.
use Rattle.std.proofs.Common.{◌≡◌, ◌==◌, ◌&&◌, ℕ, ◌≤◌, Bool, true, false, List, [], ◌∷◌, ◌++◌, length, map, take, Option, Some, None, refl, sym, ap, ◌∙◌, subst, append_assoc, length-append, arith, inl, inr}
use Rattle.std.specs.Prelude.{not, nat_le}
use Rattle.std.specs.List.{AllByRecursion, Contains, filter}
use Rattle.std.proofs.lemmas.Bool.{and_parts, eqb-true, eq-eqb}
use Rattle.std.proofs.lemmas.List.Elements.{Contains-append_cases, Contains-append_right}
use Rattle.log_chain.specs.declared.entry.Entry.{Entry}
use Rattle.log_chain.specs.declared.kind.TheConstants.{RECV, SEND}
use Rattle.authenticators.specs.Directory.{Listing}
use Rattle.replay_verifier.specs.declared.limits.TheConstants.{LONGEST_PAYLOAD, MOST_OUTPUTS}
use Rattle.replay_verifier.specs.declared.output.Output.{Output}
use Rattle.replay_verifier.specs.declared.verdict.Reason.{Reason}
use Rattle.replay_verifier.specs.declared.verdict.Reason.TheVariants as reason
use Rattle.replay_verifier.specs.Conforming.{Act, Block, Receives, Ticks, Checkpoints, Conforms, Follows, IsProper, Leads, PrefixesConform, Setting, Stand, act, acts_of, head_act, is_repeated, send_act, sent_by, setting_of, state_after, step_of}
use Rattle.replay_verifier.specs.Deviation.{DeviatesAt, EndsAt, Position, awaited_at, first_line, is_at_rest, is_bad_content, is_bad_init, is_bad_kind, is_other, is_other_state, is_out_of_order, quotes_genuinely, reason_behind}
use Rattle.replay_verifier.specs.Meaning.{Meaning}
use Rattle.replay_verifier.specs.Quotes.{Quote, TestsQuotes, receipt_of}
use Rattle.replay_verifier.specs.ReplayLaws.{ConformingListsAreProper}
use Rattle.replay_verifier.specs.Sending.{is_sent, outs}
use Rattle.further_keys.specs.FurtherKeys.{HasFurtherKeys}
use Rattle.further_keys.specs.Keeping.{QuotesNothingNew}
use Rattle.further_keys.proofs.KeyLists.{genuine_test, listed}
use Rattle.further_keys.proofs.Lists.{around, first, front_or_longer, here_or_later, later, none_here}

pub both : (a b : Bool) → a ≡ true → b ≡ true → (a && b) ≡ true
both true true p q = refl
both true false p q = absurd cc
both false b p q = absurd cc

-- the line of the table that asks of quotes
line_same : (b gn go : Bool) → (go ≡ true → gn ≡ true) → ((b && gn) ≡ true → (b && go) ≡ true) → (b && not gn) ≡ (b && not go)
line_same false gn go f g = refl
line_same true true true f g = refl
line_same true false false f g = refl
line_same true true false f g = let no : false ≡ true = g refl in absurd cc
line_same true false true f g = let no : false ≡ true = f refl in absurd cc

-- the entry that is received, among entries and awaited ones
in_log : (log : List Entry) (aw : List Output) (a : Act) → Contains (map act log ++ map send_act aw) a → a.kind ≡ RECV → (e : Entry) × Contains log e × (act e ≡ a)
in_log [] [] a c r = absurd (none_here a c)
in_log [] (o ∷ aw) a c r = elim (here_or_later (send_act o) a (map send_act aw) c) [
  | inl is ↦ let k : SEND ≡ RECV = ap (λ (x : Act). x.kind) is ∙ r in absurd cc
  | inr more ↦ in_log [] aw a more r
]
in_log (e ∷ log) aw a c r = elim (here_or_later (act e) a (map act log ++ map send_act aw) c) [
  | inl is ↦ (e, first e e log refl, is)
  | inr more ↦ let f = in_log log aw a more r in (f.0, later e f.0 log f.1, f.2)
]

module _ {S : Type 0} (old new : Listing) (h : HasFurtherKeys old new) (me : ℕ) (program : Meaning S) where
  abbrev Old : Setting S
  Old = setting_of old me program

  abbrev New : Setting S
  New = setting_of new me program

  -- ---- what is sent is the same

  sent_test : (o : Output) → is_sent old me o ≡ is_sent new me o
  sent_test o = ap (λ (b : Bool). b && not (o.to == me) && nat_le (length o.payload) LONGEST_PAYLOAD) (sym (listed old new h o.to))

  outs_same : (os : List Output) → outs old me os ≡ outs new me os
  outs_same os = λ i. take MOST_OUTPUTS (filter (λ (o : Output). sent_test o i) os)

  acts_same : (s : S) (bs : List Block) → acts_of Old s bs ≡ acts_of New s bs
  acts_same s [] = refl
  acts_same s (b ∷ bs) =
      ap (λ (os : List Output). (head_act Old s b ∷ map send_act os) ++ acts_of Old (step_of Old s b).state bs) (outs_same (step_of Old s b).outputs)
      ∙ ap (λ (rest : List Act). (head_act Old s b ∷ map send_act (sent_by New s b)) ++ rest) (acts_same (step_of Old s b).state bs)

  states_same : (s : S) (bs : List Block) → state_after Old s bs ≡ state_after New s bs
  states_same s [] = refl
  states_same s (b ∷ bs) = states_same (step_of Old s b).state bs

  -- ---- from the keys to further ones

  proper_one : (b : Block) → IsProper Old b → IsProper New b
  proper_one (Receives content q) p = (p.0, p.1, genuine_test old new h me q p.2)
  proper_one (Ticks content) p = p
  proper_one Checkpoints p = p

  proper_new : (bs : List Block) → AllByRecursion (IsProper Old) bs → AllByRecursion (IsProper New) bs
  proper_new [] p = tt
  proper_new (b ∷ bs) p = (proper_one b p.0, proper_new bs p.1)

  leads_new : (x y : Stand S) (log : List Entry) → Leads Old x log y → Leads New x log y
  leads_new x y log l = record {
    blocks = l.blocks;
    proper = proper_new l.blocks l.proper;
    whole = l.whole ∙ ap (λ (rest : List Act). map send_act x.awaited ++ rest) (acts_same x.state l.blocks);
    after = l.after ∙ states_same x.state l.blocks;
  }

  follows_new : (prev : List ℕ) (log : List Entry) → Follows Old prev log → Follows New prev log
  follows_new prev [] f = tt
  follows_new prev (e ∷ log) f = (f.0, f.1, f.2, f.3, leads_new (record { state = f.1; awaited = [] }) f.3 log f.4)

  pub conforms_new : (prev : List ℕ) (log : List Entry) → Conforms Old prev log → Conforms New prev log
  conforms_new prev log c = record { follows = follows_new prev log c.follows; once = c.once }

  pub leaves_new : (prev : List ℕ) (log : List Entry) (place : Position S) → EndsAt Old prev log place → EndsAt New prev log place
  leaves_new prev [] place l = l
  leaves_new prev (e ∷ log) place l = (l.0, l.1, l.2, leads_new (record { state = l.0; awaited = [] }) l.2 log l.3, l.4)

  -- ---- and back, where nothing new is quoted

  abbrev IsKept : Act → Type 0
  IsKept a = a.kind ≡ RECV → quotes_genuinely new me (receipt_of a.content) ≡ true → quotes_genuinely old me (receipt_of a.content) ≡ true

  kept : (e : Entry) → QuotesNothingNew old new me e → IsKept (act e)
  kept e q r g = let p = q (both (e.kind == RECV) (quotes_genuinely new me (receipt_of e.content)) (eq-eqb e.kind RECV r) g) in (and_parts (e.kind == RECV) (quotes_genuinely old me (receipt_of e.content)) p).1

  proper_back : (s : S) (b : Block) → IsProper New b → IsKept (head_act New s b) → IsProper Old b
  proper_back s (Receives content q) p k =
      let g = k refl (subst (λ (o : Option Quote). quotes_genuinely new me o ≡ true) (sym p.0) p.2) in
      (p.0, p.1, subst (λ (o : Option Quote). quotes_genuinely old me o ≡ true) p.0 g)
  proper_back s (Ticks content) p k = p
  proper_back s Checkpoints p k = p

  proper_old : (s : S) (bs : List Block) → AllByRecursion (IsProper New) bs → ((a : Act) → Contains (acts_of New s bs) a → IsKept a) → AllByRecursion (IsProper Old) bs
  proper_old s [] p k = tt
  proper_old s (b ∷ bs) p k =
      let front = head_act New s b ∷ map send_act (sent_by New s b) in
      let rest = acts_of New (step_of New s b).state bs in (
        proper_back s b p.0 (k (head_act New s b) (first (head_act New s b) (head_act New s b) (map send_act (sent_by New s b) ++ rest) refl)),
        proper_old (step_of New s b).state bs p.1 (λ a c. k a (Contains-append_right front rest a c)),
      )

  leads_old : (x y : Stand S) (log : List Entry) → ((e : Entry) → Contains log e → QuotesNothingNew old new me e) → Leads New x log y → Leads Old x log y
  leads_old x y log q l = record {
    blocks = l.blocks;
    proper = proper_old x.state l.blocks l.proper (λ a c r.
        let there : Contains (map act log ++ map send_act y.awaited) a =
        subst (λ (l2 : List Act). Contains l2 a) (sym l.whole) (Contains-append_right (map send_act x.awaited) (acts_of New x.state l.blocks) a c) in
        let f = in_log log y.awaited a there r in
        subst IsKept f.2 (kept f.0 (q f.0 f.1)) r);
    whole = l.whole ∙ ap (λ (rest : List Act). map send_act x.awaited ++ rest) (sym (acts_same x.state l.blocks));
    after = l.after ∙ sym (states_same x.state l.blocks);
  }

  follows_old : (prev : List ℕ) (log : List Entry) → ((e : Entry) → Contains log e → QuotesNothingNew old new me e) → Follows New prev log → Follows Old prev log
  follows_old prev [] q f = tt
  follows_old prev (e ∷ log) q f = (f.0, f.1, f.2, f.3, leads_old (record { state = f.1; awaited = [] }) f.3 log (λ d c. q d (later e d log c)) f.4)

  pub conforms_old : (prev : List ℕ) (log : List Entry) → ((e : Entry) → Contains log e → QuotesNothingNew old new me e) → Conforms New prev log → Conforms Old prev log
  conforms_old prev log q c = record { follows = follows_old prev log q c.follows; once = c.once }

  -- ---- a deviation

  pub quote_new : (o : Option Quote) → quotes_genuinely old me o ≡ true → quotes_genuinely new me o ≡ true
  quote_new None g = g
  quote_new (Some q) g = genuine_test old new h me q g

  -- the table, but for what it asks of quotes
  told : List ℕ → List Entry → Position S → Entry → Bool → Option Reason
  told prev before place e b = first_line (
      ((is_out_of_order place e, reason.SeqOrder)
      ∷ (is_bad_init Old prev place e, reason.BadInit)
      ∷ (is_bad_kind prev place e, reason.BadKind)
      ∷ (is_bad_content Old place e, reason.BadContent)
      ∷ (b, reason.BadReceipt)
      ∷ (not (is_at_rest (awaited_at place)) && not (e.kind == SEND), reason.MissingOutput)
      ∷ (is_at_rest (awaited_at place) && (e.kind == SEND), reason.ExtraOutput)
      ∷ ((e.kind == SEND) && is_other (awaited_at place) (act e), reason.WrongOutput)
      ∷ ((e.kind == 5) && is_other_state Old place e.content, reason.WrongCheckpoint)
      ∷ []) ++ (is_repeated before e, reason.DuplicateReceipt) ∷ [])

  told_same : (prev : List ℕ) (before : List Entry) (place : Position S) (e : Entry) → QuotesNothingNew old new me e → reason_behind New prev before place e ≡ reason_behind Old prev before place e
  unfolding told
  told_same prev before place e q =
      ap (told prev before place e) (line_same (e.kind == RECV) (quotes_genuinely new me (receipt_of e.content)) (quotes_genuinely old me (receipt_of e.content)) (quote_new (receipt_of e.content)) q)

  module _ (tests : TestsQuotes) (proper : ConformingListsAreProper S) (prefixes : PrefixesConform S) where
    -- what conforms quotes nothing new
    nothing_new : (prev : List ℕ) (log : List Entry) → Conforms Old prev log → (e : Entry) → Contains log e → QuotesNothingNew old new me e
    nothing_new prev log c e has g =
        let p = and_parts (e.kind == RECV) (quotes_genuinely new me (receipt_of e.content)) g in
        let r = around e log has in
        let k = proper.receipts Old prev r.0 r.1 e (subst (Conforms Old prev) r.2 c) (eqb-true e.kind RECV p.0) in
        both (e.kind == RECV) (quotes_genuinely old me (receipt_of e.content)) p.0 (subst (λ (o : Option Quote). quotes_genuinely old me o ≡ true) (sym k.1) ((tests old me k.0).1 k.3))

    pub deviates_new : (prev : List ℕ) (log : List Entry) (at : ℕ) (why : Reason) (d : DeviatesAt Old prev log at why) → QuotesNothingNew old new me d.entry → DeviatesAt New prev log at why
    deviates_new prev log at why d q = record {
      before = d.before;
      entry = d.entry;
      behind = d.behind;
      parts = d.parts;
      at_is = d.at_is;
      conforms = conforms_new prev d.before d.conforms;
      longest = λ front back p c. most front back p c;
      place = d.place;
      leaves = leaves_new prev d.before d.place d.leaves;
      line = told_same prev d.before d.place d.entry q ∙ d.line;
    }
      where
        each : (e : Entry) → Contains (d.before ++ d.entry ∷ []) e → QuotesNothingNew old new me e
        each e has = elim (Contains-append_cases d.before (d.entry ∷ []) e has) [
          | inl before ↦ nothing_new prev d.before d.conforms e before
          | inr last ↦ elim (here_or_later d.entry e [] last) [
            | inl is ↦ subst (QuotesNothingNew old new me) is q
            | inr none ↦ absurd (none_here e none)
          ]
        ]

        most : (front back : List Entry) → log ≡ front ++ back → Conforms New prev front → length front ≤ at
        most front back p c = elim (front_or_longer d.before d.entry d.behind front back (sym d.parts ∙ p)) [
          | inl l ↦ omega (arith, l, d.at_is)
          | inr m ↦
              let longer : Conforms New prev ((d.before ++ d.entry ∷ []) ++ m.0) = subst (Conforms New prev) (m.1 ∙ sym (append_assoc d.before (d.entry ∷ []) m.0)) c in
              let here = conforms_old prev (d.before ++ d.entry ∷ []) each (prefixes New prev (d.before ++ d.entry ∷ []) m.0 longer) in
              let l = d.longest (d.before ++ d.entry ∷ []) d.behind (d.parts ∙ sym (append_assoc d.before (d.entry ∷ []) d.behind)) here in
              absurd (omega (arith, l, d.at_is, length-append d.before (d.entry ∷ [])))
        ]
