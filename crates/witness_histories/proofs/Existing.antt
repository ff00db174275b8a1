-- A world for a history, of checked items.
use Rattle.std.proofs.Common.{◌≡◌, ◌<◌, ◌+◌, ◌^◌, ℕ, zero, suc, Option, Some, None, List, [], ◌∷◌, ◌++◌, length, get_or, refl, sym, ap, ◌∙◌, subst, inl, inr, arith}
use Rattle.std.specs.List.{All, Contains}
use Rattle.std.proofs.lemmas.List.{append_assoc, get_or_at, length-append}
use Rattle.std.proofs.lemmas.List.Elements.{All-nil, All-cons, All-weaker, Contains-append_right}
use Rattle.outcome.specs.Bytes.{IsBytes}
use Rattle.log_chain.specs.declared.entry.Entry.{Entry}
use Rattle.authenticators.specs.Directory.{Listing}
use Rattle.replay_verifier.specs.declared.verdict.Verdict.{Verdict}
use Rattle.replay_verifier.specs.declared.verdict.Verdict.TheVariants as verdict
use Rattle.replay_verifier.specs.Conforming.{Setting, setting_of}
use Rattle.replay_verifier.specs.Deviation.{IsVerdict}
use Rattle.replay_verifier.specs.Meaning.{Meaning}
use Rattle.replay_verifier.specs.ReplayLaws.{AreBytes, IsJudged}
use Rattle.item_forms.specs.declared.forms.Fields.{Fields}
use Rattle.item_forms.specs.declared.forms.Fields.TheVariants as form
use Rattle.item_forms.specs.Pieces.{Piece}
use Rattle.item_forms.specs.Spelling.{Fits, FitsEntry}
use Rattle.evidence_item.specs.Checking.{Checked, IsChecked, IsOwnVerdict}
use Rattle.evidence_item.specs.Validity.{IsValid}
use Rattle.evidence_set.specs.ItemSets.{Items, SetsAreLists, insert_all, listed, none, pieces, set_of as items_of}
use Rattle.evidence.specs.Contents.{Contents}
use Rattle.witness_core.specs.declared.event.Event.{Event}
use Rattle.witness_core.specs.declared.event.Event.TheVariants as event
use Rattle.witness_core.specs.Answering.{IsCheckedFor}
use Rattle.witness_core.specs.Worlds.{World, IsOfOneProgram, directory_of, nothing}
use Rattle.shared_stores.specs.declared.history.Call.{Call}
use Rattle.shared_stores.specs.declared.history.Call.TheVariants as call
use Rattle.shared_stores.specs.declared.history.Recorded.{Recorded}
use Rattle.shared_stores.specs.Histories.{IsAllowed, Replays, after}
use Rattle.witness_histories.specs.Runs.{AreEventsOf, HistoriesHaveWorlds, IsEventOf, IsWorldOf}

-- ---- checked items

-- Under the program each list of entries conforms or deviates.
abbrev pub Judges : {S : Type 0} → Meaning S → Type 0
Judges program = (ds : Listing) (me : ℕ) (prev : List ℕ) (log : List Entry) → me < 2 ^ 32 → AreBytes log → IsJudged (setting_of ds me program) prev log

verdict_of : {S : Type 0} (z : Setting S) (prev : List ℕ) (log : List Entry) → IsJudged z prev log → (v : Verdict) × IsVerdict z prev log v
verdict_of z prev log (inl conforms) = (verdict.Conforms, conforms)
verdict_of z prev log (inr deviates) = (verdict.Deviates deviates.0 deviates.1, deviates.2)

has_head : {X : Type 0} (x : X) (xs : List X) → Contains (x ∷ xs) x
has_head x xs = (0, omega arith, refl)

has_more : {X : Type 0} (y : X) (xs : List X) (x : X) → Contains xs x → Contains (y ∷ xs) x
has_more y xs x has = Contains-append_right (y ∷ []) xs x has

module _ {S : Type 0} (ds : Listing) (program : Meaning S) (judges : Judges program) where
  own_verdict : (x : Fields) → Fits x → (v : Option Verdict) × IsOwnVerdict ds program x v
  own_verdict (form.Auth a) fits = (None, refl)
  own_verdict (form.Segment s) fits =
      let bytes : AreBytes s.entries = All-weaker FitsEntry (λ (e : Entry). IsBytes e.content) (λ e f. f.content.each) s.entries fits.entries.each in
      let v = verdict_of (setting_of ds s.node program) s.prev s.entries (judges ds s.node s.prev s.entries fits.node bytes) in
      (Some v.0, v.1)
  own_verdict (form.Audit c) fits = (None, refl)
  own_verdict (form.Send m) fits = (None, refl)
  own_verdict (form.Ack a) fits = (None, refl)

  -- Of each valid item there is a checked one, and so it is of lists.
  as_checked : (x : Piece) → IsValid ds x.fields → (c : Checked) × (c.item ≡ x) × IsChecked ds program c
  as_checked x valid =
      let v = own_verdict x.fields x.fits in
      (record { item = x; verdict = v.0; findings = None }, refl, record { valid = valid; verdict = v.1; findings = tt })

  all_checked : (xs : List Piece) → ((x : Piece) → Contains xs x → IsValid ds x.fields) → (cs : List Checked) × (pieces cs ≡ xs) × All (IsChecked ds program) cs
  all_checked [] valid = ([], refl, All-nil (IsChecked ds program))
  all_checked (x ∷ xs) valid =
      let c = as_checked x (valid x (has_head x xs)) in
      let cs = all_checked xs (λ y has. valid y (has_more x xs y has)) in
      (c.0 ∷ cs.0, ap (λ (y : Piece). y ∷ pieces cs.0) c.1 ∙ ap (λ (l : List Piece). x ∷ l) cs.1, All-cons (IsChecked ds program) c.0 cs.0 c.2 cs.2)

-- ---- calls that are allowed

abbrev AreAllowed : Listing → List Recorded → Type 0
AreAllowed ds [] = Unit {0}
AreAllowed ds (r ∷ history) = IsAllowed ds r.call × AreAllowed ds history

allowed_in : {S : Type 0} (ds : Listing) (program : Meaning S) (E F : Items) (history : List Recorded) → Replays ds program E history F → AreAllowed ds history
allowed_in ds program E F [] legal = tt
allowed_in ds program E F (r ∷ history) legal = (legal.0, allowed_in ds program (after E r.call) F history legal.2)

module _ {S : Type 0} (P : Type 0) (lists : SetsAreLists) (ds : Listing) (program : Meaning S) (judges : Judges program) where
  -- Each call has a pack under its number: a merge that of the merged items, another one a pack of nothing.
  merged : (M : Items) → IsAllowed ds (call.Merge M) → (cs : List Checked) × (pieces cs ≡ listed M) × All (IsChecked ds program) cs
  merged M valid = all_checked ds program judges (listed M) (λ x has. valid x ((lists.members M x).0 has))

  abbrev pack_for : (c : Call) → IsAllowed ds c → List Checked
  pack_for (call.Take x) ok = []
  pack_for (call.Merge M) ok = (merged M ok).0
  pack_for (call.Ask node) ok = []
  pack_for call.Export ok = []

  abbrev packs_for : (history : List Recorded) → AreAllowed ds history → List (List Checked)
  packs_for [] ok = []
  packs_for (r ∷ history) ok = pack_for r.call ok.0 ∷ packs_for history ok.1

  pack_checked : (c : Call) (ok : IsAllowed ds c) → All (IsChecked ds program) (pack_for c ok)
  pack_checked (call.Take x) ok = All-nil (IsChecked ds program)
  pack_checked (call.Merge M) ok = (merged M ok).2
  pack_checked (call.Ask node) ok = All-nil (IsChecked ds program)
  pack_checked call.Export ok = All-nil (IsChecked ds program)

  packs_checked : (history : List Recorded) (ok : AreAllowed ds history) → All (All (IsChecked ds program)) (packs_for history ok)
  packs_checked [] ok = All-nil (All (IsChecked ds program))
  packs_checked (r ∷ history) ok = All-cons (All (IsChecked ds program)) (pack_for r.call ok.0) (packs_for history ok.1) (pack_checked r.call ok.0) (packs_checked history ok.1)

  delivers : (M : Items) (ok : IsAllowed ds (call.Merge M)) → items_of (merged M ok).0 ≡ M
  delivers M ok = ap (insert_all none) (merged M ok).1 ∙ lists.whole M

  -- ---- its events

  abbrev event_for : ℕ → (c : Call) → IsAllowed ds c → Event P
  event_for k (call.Take x) ok = event.Take 0 (as_checked ds program judges x ok).0
  event_for k (call.Merge M) ok = event.Deliver k 0
  event_for k (call.Ask node) ok = event.Ask 0 node
  event_for k call.Export ok = event.Export 0

  abbrev events_for : ℕ → (history : List Recorded) → AreAllowed ds history → List (Event P)
  events_for k [] ok = []
  events_for k (r ∷ history) ok = event_for k r.call ok.0 ∷ events_for (suc k) history ok.1

  is_event : (W : World) (c : Call) (ok : IsAllowed ds c) (front others : List (List Checked)) (k : ℕ) → length front ≡ k → W.packs ≡ front ++ pack_for c ok ∷ others → IsEventOf W c (event_for k c ok)
  is_event W (call.Take x) ok front others k n is = (refl, (as_checked ds program judges x ok).1)
  is_event W (call.Merge M) ok front others k n is =
      let len : length W.packs ≡ length front + (length others + 1) = ap length is ∙ length-append front ((merged M ok).0 ∷ others) ∙ (omega arith) in
      let below : k < length W.packs = omega arith in
      let here : get_or W.packs k [] ≡ (merged M ok).0 = ap (λ (l : List (List Checked)). get_or l k []) is ∙ get_or_at front (merged M ok).0 others [] k n in
      (refl, below, ap items_of here ∙ delivers M ok)
  is_event W (call.Ask node) ok front others k n is = (refl, refl)
  is_event W call.Export ok front others k n is = refl

  are_events : (W : World) (history : List Recorded) (ok : AreAllowed ds history) (front : List (List Checked)) (k : ℕ) → length front ≡ k → W.packs ≡ front ++ packs_for history ok → AreEventsOf W history (events_for k history ok)
  are_events W [] ok front k n is = tt
  are_events W (r ∷ history) ok front k n is =
      let longer : length (front ++ pack_for r.call ok.0 ∷ []) ≡ suc k = length-append front (pack_for r.call ok.0 ∷ []) ∙ (omega arith) in (
        is_event W r.call ok.0 front (packs_for history ok.1) k n is,
        are_events W history ok.1 (front ++ pack_for r.call ok.0 ∷ []) (suc k) longer (is ∙ sym (append_assoc front (pack_for r.call ok.0 ∷ []) (packs_for history ok.1))),
      )

  event_checked : (W : World) (k : ℕ) (c : Call) (ok : IsAllowed ds c) → directory_of W 0 ≡ ds → IsCheckedFor program W (event_for k c ok)
  event_checked W k (call.Take x) ok under = λ below. subst (λ (d : Listing). IsChecked d program (as_checked ds program judges x ok).0) (sym under) (as_checked ds program judges x ok).2
  event_checked W k (call.Merge M) ok under = tt
  event_checked W k (call.Ask node) ok under = tt
  event_checked W k call.Export ok under = tt

  events_checked : (W : World) (k : ℕ) (history : List Recorded) (ok : AreAllowed ds history) → directory_of W 0 ≡ ds → All (IsCheckedFor program W) (events_for k history ok)
  events_checked W k [] ok under = All-nil (IsCheckedFor program W)
  events_checked W k (r ∷ history) ok under =
      All-cons (IsCheckedFor program W) (event_for k r.call ok.0) (events_for (suc k) history ok.1) (event_checked W k r.call ok.0 under) (events_checked W (suc k) history ok.1 under)

  -- ---- its world

  abbrev world_for : Items → (history : List Recorded) → AreAllowed ds history → World
  world_for E history ok = record { stores = record { directory = ds; items = E } ∷ []; outlines = []; summaries = []; packs = packs_for history ok }

  alone : (C : Contents) (v : ℕ) → v < length (C ∷ []) → get_or (C ∷ []) v nothing ≡ C
  alone C zero below = refl
  alone C (suc v) below = absurd (omega arith)

  of_one_program : (E : Items) (history : List Recorded) (ok : AreAllowed ds history) → IsOfOneProgram program (world_for E history ok)
  of_one_program E history ok =
      let C : Contents = record { directory = ds; items = E } in
      record {
        one = λ v w below also. ap (λ (D : Contents). D.directory) (alone C v below ∙ sym (alone C w also));
        packs = All-weaker (All (IsChecked ds program)) (λ (p : List Checked). (w : ℕ) → w < length (C ∷ []) → All (IsChecked (get_or (C ∷ []) w nothing).directory program) p)
            (λ p all w below. subst (λ (D : Contents). All (IsChecked D.directory program) p) (sym (alone C w below)) all) (packs_for history ok) (packs_checked history ok);
      }

  world_of : (E : Items) (history : List Recorded) (ok : AreAllowed ds history) → IsWorldOf program ds E history (world_for E history ok) (events_for 0 history ok)
  world_of E history ok = record {
    one = refl;
    kept = of_one_program E history ok;
    are = are_events (world_for E history ok) history ok [] 0 refl refl;
    checked = events_checked (world_for E history ok) 0 history ok refl;
  }

pub have_worlds : {P S : Type 0} (program : Meaning S) → SetsAreLists → Judges program → HistoriesHaveWorlds P program
have_worlds {P} program lists judges ds E F history legal =
    let ok = allowed_in ds program E F history legal in
    (world_for P lists ds program judges E history ok, events_for P lists ds program judges 0 history ok, world_of P lists ds program judges E history ok)
