-- A history, event by event.
use Rattle.std.proofs.Common.{◌≡◌, ◌+◌, ◌<◌, ℕ, Bool, true, false, ltb, not, Option, None, List, [], ◌∷◌, ◌++◌, length, reverse, refl, sym, ap, subst, ◌∙◌, inl, inr, ⊎_elim, arith}
use Rattle.std.specs.Prelude.{◌↔◌, IsTrue, slice_index_or}
use Rattle.std.proofs.lemmas.Bool.Decides.{nat_tests}
use Rattle.std.proofs.lemmas.Grind.{reverse_onto}
use Rattle.std.proofs.lemmas.List.{append_assoc, append-nil}
use Rattle.authenticators.specs.Directory.{Listing, is_listed}
use Rattle.replay_verifier.specs.Meaning.{Meaning}
use Rattle.item_forms.specs.Pieces.{Piece}
use Rattle.evidence_item.specs.Checking.{Checked}
use Rattle.evidence_set.specs.Indications.{IsIndication}
use Rattle.evidence_set.specs.ItemSets.{Items, Has, Join, contains, insert, JoinsAsExpected, SetsAsExpected}
use Rattle.evidence.specs.Contents.{Contents}
use Rattle.witness_core.specs.declared.event.Event.{Event}
use Rattle.witness_core.specs.declared.event.Event.TheVariants as event
use Rattle.witness_core.specs.declared.fault.EventFault.{EventFault}
use Rattle.witness_core.specs.declared.fault.EventFault.TheVariants as cause
use Rattle.witness_core.specs.Answering.{AreReplies, IsOfPack, IsReply, refusal_of, unless}
use Rattle.witness_core.specs.Worlds.{World, IsPacked, IsTaken, HasTaken, directory_of, nothing, pack_of, packs_made}
use Rattle.shared_stores.specs.declared.history.Call.{Call}
use Rattle.shared_stores.specs.declared.history.Call.TheVariants as call
use Rattle.shared_stores.specs.declared.history.Given.{Given}
use Rattle.shared_stores.specs.declared.history.Given.TheVariants as given
use Rattle.shared_stores.specs.declared.history.Recorded.{Recorded}
use Rattle.shared_stores.specs.Histories.{IsAllowed, Replays, after}
use Rattle.shared_stores.specs.Histories.{IsReply as IsGiven}
use Rattle.witness_histories.specs.Runs.{AreEventsOf, HistoriesAreRuns, IsEventOf, told, told_in}

is_true_not : (b : Bool) → (IsTrue (not b) → IsTrue b → ⊥) × ((IsTrue b → ⊥) → IsTrue (not b))
is_true_not b = grind arith

-- A test that holds is passed.
passed : (b : Bool) (why : EventFault) (others : Option EventFault) → b ≡ true → others ≡ None → unless b why others ≡ None
passed true why others holds none = none
passed false why others holds none = absurd (grind (arith, nat_tests))

below : (m n k : ℕ) → m < n → ltb m (n + k) ≡ true
below m n k less = grind (arith, nat_tests)

there : (v n : ℕ) → v ≡ 0 → n ≡ 1 → ltb v n ≡ true
there v n at one = grind (arith, nat_tests)

module _ {P S : Type 0} (sets : SetsAsExpected) (joins : JoinsAsExpected) (ds : Listing) (program : Meaning S) (W : World) (dir : directory_of W 0 ≡ ds) (count : length W.stores ≡ 1) where
  -- The set is what the witness took, and each pack is as the world keeps it.
  record Stands (past : List (Event P)) (E : Items) : Type 0 where
    taken : (x : Piece) → Has E x ↔ HasTaken W 0 past x
    packs : (k : ℕ) (x : Piece) → Has (pack_of W k) x ↔ IsPacked W k past x

  took_one : (past : List (Event P)) (E : Items) (v : ℕ) (item : Checked) → Stands past E → v ≡ 0 → Stands (event.Take v item ∷ past) (insert E item.item)
  unfolding HasTaken IsPacked
  took_one past E v item s at = record {
    taken = λ x. (
      λ has.
          ⊎_elim (λ (here : x ≡ item.item). inr (at, sym here)) (λ (had : Has E x). inl ((s.taken x).0 had)) ((sets.insert E item.item x).0 has),
      λ took. ⊎_elim (λ (had : HasTaken W 0 past x). (sets.insert E item.item x).1 (inr ((s.taken x).1 had)))
          (λ (here : (v ≡ 0) × (item.item ≡ x)). (sets.insert E item.item x).1 (inl (sym here.1))) took,
    );
    packs = s.packs;
  }

  delivered : (past : List (Event P)) (E M : Items) (k v : ℕ) → Stands past E → v ≡ 0 → pack_of W k ≡ M → Stands (event.Deliver k v ∷ past) (Join E M)
  unfolding HasTaken IsPacked
  delivered past E M k v s at is = record {
    taken = λ x. (
      λ has.
          ⊎_elim (λ (had : Has E x). inl ((s.taken x).0 had)) (λ (new : Has M x). inr (at, (s.packs k x).0 (subst (λ A. Has A x) (sym is) new))) ((joins.members E M x).0 has),
      λ took. ⊎_elim (λ (had : HasTaken W 0 past x). (joins.members E M x).1 (inl ((s.taken x).1 had)))
          (λ (new : (v ≡ 0) × IsPacked W k past x). (joins.members E M x).1 (inr (subst (λ A. Has A x) is ((s.packs k x).1 new.1)))) took,
    );
    packs = s.packs;
  }

  asked_one : (past : List (Event P)) (E : Items) (v node : ℕ) → Stands past E → Stands (event.Ask v node ∷ past) E
  unfolding HasTaken IsPacked
  asked_one past E v node s = record { taken = s.taken; packs = s.packs }

  exported : (past : List (Event P)) (E : Items) (v : ℕ) → Stands past E → Stands (event.Export v ∷ past) E
  unfolding HasTaken IsPacked
  exported past E v s = record { taken = s.taken; packs = s.packs }

  -- What the world has after the event is what the store has after the call.
  stands_on : (past : List (Event P)) (E : Items) (c : Call) (e : Event P) → Stands past E → IsEventOf W c e → Stands (e ∷ past) (after E c)
  stands_on past E (call.Take x) (event.Take v item) s is = subst (λ y. Stands (event.Take v item ∷ past) (insert E y)) is.1 (took_one past E v item s is.0)
  stands_on past E (call.Merge M) (event.Deliver k v) s is = delivered past E M k v s is.0 is.2
  stands_on past E (call.Ask node) (event.Ask v asked) s is = asked_one past E v asked s
  stands_on past E call.Export (event.Export v) s is = exported past E v s
  stands_on past E c e s is = absurd is

  at_one : (past : List (Event P)) (E : Items) (v : ℕ) → Stands past E → v ≡ 0 → IsTaken W v past E
  at_one past E v s at = subst (λ w. IsTaken W w past E) (sym at) s.taken

  took_reply : (past : List (Event P)) (E : Items) (v : ℕ) (x : Piece) (new : Bool) → Stands past E → v ≡ 0 → new ≡ not (contains E x) → IsTrue new ↔ ¬ (HasTaken W v past x)
  took_reply past E v x new s at is =
      subst (λ w. IsTrue new ↔ ¬ (HasTaken W w past x)) (sym at)
      (subst (λ b. IsTrue b ↔ ¬ (HasTaken W 0 past x)) (sym is)
      (λ n. λ took. (is_true_not (contains E x)).0 n ((s.taken x).1 took), λ n. (is_true_not (contains E x)).1 (λ has. n ((s.taken x).0 has))))

  -- What the call is answered is what the event answers.
  replied : (past : List (Event P)) (E : Items) (c : Call) (g : Given) (e : Event P) → Stands past E → IsEventOf W c e → IsGiven ds program E c g → IsReply W past program e (told g)
  replied past E (call.Take x) (given.Took new) (event.Take v item) s is told_is = took_reply past E v item.item new s is.0 (told_is ∙ ap (λ y. not (contains E y)) (sym is.1))
  replied past E (call.Merge M) (given.Merged new) (event.Deliver k v) s is told_is =
      (E, M, at_one past E v s is.0, subst (λ A. IsOfPack W past k A) is.2 (s.packs k), told_is)
  replied past E (call.Ask node) (given.Says i) (event.Ask v asked) s is told_is = (
    E,
    at_one past E v s is.0,
    subst (λ w. IsIndication (directory_of W w) program E asked i) (sym is.0)
        (subst (λ (d : Listing). IsIndication d program E asked i) (sym dir) (subst (λ n. IsIndication ds program E n i) (sym is.1) told_is)),
  )
  replied past E call.Export (given.Bytes text) (event.Export v) s is told_is = (E, at_one past E v s is, told_is)
  replied past E (call.Take x) g (event.Take v item) s is told_is = absurd told_is
  replied past E (call.Merge M) g (event.Deliver k v) s is told_is = absurd told_is
  replied past E (call.Ask node) g (event.Ask v asked) s is told_is = absurd told_is
  replied past E call.Export g (event.Export v) s is told_is = absurd told_is
  replied past E c g e s is told_is = absurd is

  -- The witness is there, and so is the pack of a merge; and what is asked of a call is asked of its event.
  not_refused : (past : List (Event P)) (c : Call) (e : Event P) → IsEventOf W c e → IsAllowed ds c → refusal_of W past e ≡ None
  not_refused past (call.Take x) (event.Take v item) is allowed = passed (ltb v (length W.stores)) cause.NoWitness None (there v (length W.stores) is.0 count) refl
  not_refused past (call.Merge M) (event.Deliver k v) is allowed =
      passed (ltb v (length W.stores)) cause.NoWitness (unless (ltb k (length W.packs + packs_made past)) cause.NoPacket None) (there v (length W.stores) is.0 count)
      (passed (ltb k (length W.packs + packs_made past)) cause.NoPacket None (below k (length W.packs) (packs_made past) is.1) refl)
  not_refused past (call.Ask node) (event.Ask v asked) is allowed =
      let listed : is_listed (directory_of W v) asked ≡ true = ap (λ w. is_listed (directory_of W w) asked) is.0 ∙ ap (λ (d : Listing). is_listed d asked) dir ∙ ap (is_listed ds) is.1 ∙ allowed in
      passed (ltb v (length W.stores)) cause.NoWitness (unless (is_listed (directory_of W v) asked) cause.UnknownNode None) (there v (length W.stores) is.0 count)
      (passed (is_listed (directory_of W v) asked) cause.UnknownNode None listed refl)
  not_refused past call.Export (event.Export v) is allowed = passed (ltb v (length W.stores)) cause.NoWitness None (there v (length W.stores) is count) refl
  not_refused past c e is allowed = absurd is

  turned_over : (f : Event P) (events past : List (Event P)) → reverse (f ∷ events) ++ past ≡ reverse events ++ (f ∷ past)
  turned_over f events past = ap (λ (l : List (Event P)). l ++ past) (reverse_onto events f []) ∙ append_assoc (reverse events) (f ∷ []) past

  runs : (past : List (Event P)) (E F : Items) (history : List Recorded) (events : List (Event P)) → Stands past E → AreEventsOf W history events → Replays ds program E history F
      → ((x : Piece) → Has F x ↔ HasTaken W 0 (reverse events ++ past) x) × AreReplies program W past events (told_in history)
  runs past E F [] [] s are legal = (subst (λ A. (x : Piece) → Has A x ↔ HasTaken W 0 past x) legal s.taken, tt)
  runs past E F [] (e ∷ events) s are legal = absurd are
  runs past E F (r ∷ history) [] s are legal = absurd are
  runs past E F (r ∷ history) (e ∷ events) s are legal =
      let go = runs (e ∷ past) (after E r.call) F history events (stands_on past E r.call e s are.0) are.1 legal.2 in
      (subst (λ (l : List (Event P)). (x : Piece) → Has F x ↔ HasTaken W 0 l x) (sym (turned_over e events past)) go.0, (not_refused past r.call e are.0 legal.0, replied past E r.call r.reply e s are.0 legal.1, go.1))

  begins : (E : Items) → (slice_index_or W.stores 0 nothing).items ≡ E → Stands [] E
  unfolding HasTaken IsPacked
  begins E is = record {
    taken = λ x. (λ has. subst (λ A. Has A x) (sym is) has, λ took. subst (λ A. Has A x) is took);
    packs = λ k x. (λ has. has, λ has. has);
  }

pub histories_run : {P S : Type 0} → SetsAsExpected → JoinsAsExpected → HistoriesAreRuns P S
histories_run {P} sets joins ds program W E F history events one are legal =
    let dir : directory_of W 0 ≡ ds = ap (λ (l : List Contents). (slice_index_or l 0 nothing).directory) one in
    let set_is : (slice_index_or W.stores 0 nothing).items ≡ E = ap (λ (l : List Contents). (slice_index_or l 0 nothing).items) one in
    let count : length W.stores ≡ 1 = ap length one in
    let run = runs {P = P} sets joins ds program W dir count [] E F history events (begins {P = P} sets joins ds program W dir count E set_is) are legal in
    record { answered = run.1; took = subst (λ (l : List (Event P)). (x : Piece) → Has F x ↔ HasTaken W 0 l x) (append-nil (reverse events)) run.0 }
