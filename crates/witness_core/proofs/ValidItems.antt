-- What a witness takes in a run is valid.
use Rattle.std.proofs.Common.{◌≡◌, ◌==◌, ◌<◌, ◌+◌, ℕ, zero, suc, Bool, true, false, List, [], ◌∷◌, ◌++◌, length, reverse, take, get_or, Option, None, Result, Ok, Err, refl, sym, ap, subst, ◌∙◌, inl, inr, append_assoc, append-nil, arith}
use Rattle.std.specs.Prelude.{IfErr, IfOk, IsTrue, nat_lt}
use Rattle.std.specs.Bool.{MatchBool}
use Rattle.std.specs.List.{All, AllByRecursion, Contains}
use Rattle.std.proofs.lemmas.Bool.{ltb-true}
use Rattle.std.proofs.lemmas.Grind.{reverse_onto}
use Rattle.std.proofs.Math.Seq.{take-append_seam}
use Rattle.std.proofs.lemmas.List.Elements.{All-contains, All-from_recursion, recursion_from_All}
use Rattle.authenticators.specs.Directory.{Listing}
use Rattle.replay_verifier.specs.Meaning.{Meaning}
use Rattle.item_forms.specs.Pieces.{Piece}
use Rattle.evidence_item.specs.Checking.{Checked, IsChecked}
use Rattle.evidence_item.specs.Validity.{IsValid}
use Rattle.evidence_set.specs.Valid.{AreValid}
use Rattle.evidence_set.specs.Indications.{IsIndication}
use Rattle.evidence_set.specs.ItemSets.{Has, Items, SetsAreLists, SetsAsExpected, none, pieces}
use Rattle.evidence_set.specs.declared.indication.Indication.{Indication}
use Rattle.evidence_set.specs.declared.indication.Indication.TheVariants.{Exposed}
use Rattle.accuracy.specs.Accuracy.{HonestNodesAreNotExposed}
use Rattle.transfer.specs.Summaries.{Summary, names}
use Rattle.transfer.proofs.Members.{first, here_or_later, later, none_here}
use Rattle.witness_core.specs.declared.event.Event.{Event}
use Rattle.witness_core.specs.declared.event.Event.TheVariants.{Take, Outline, Summarise, Short, Pack, Deliver, Ask, Export}
use Rattle.witness_core.specs.declared.event.Reply.{Reply}
use Rattle.witness_core.specs.declared.event.Reply.TheVariants.{Says}
use Rattle.witness_core.specs.declared.fault.EventFault.{EventFault}
use Rattle.witness_core.specs.declared.fault.RunFault.{RunFault}
use Rattle.witness_core.specs.declared.fault.EventFault.TheVariants.{NoWitness}
use Rattle.witness_core.specs.Answering.{AreChecked, AreReplies, IsCheckedFor, IsReply, has_witness, refusal_of, unless}
use Rattle.witness_core.specs.Running.{Ran, Stopped}
use Rattle.witness_core.specs.Worlds.{HasJust, IsOfOneProgram, IsPacked, IsTaken, IsTold, HasTaken, World, directory_of, nothing, pack_of, packs_made}
use Rattle.witness_core.specs.Soundness.{AnswersAreOfValidItems, IsAsked, ExposesNoHonestNode, IsRun, IsSound, RunsAreSound}
use Rattle.witness_core.specs.within.ValidStores.{HasValidItems}

-- ---- checked items, and the set of them

checked_of : (cs : List Checked) (x : Piece) → Contains (pieces cs) x → (c : Checked) × Contains cs c × (c.item ≡ x)
checked_of [] x has = absurd (none_here x has)
checked_of (c ∷ cs) x has = elim (here_or_later c.item x (pieces cs) has) [
  | inl is ↦ (c, first c c cs refl, is)
  | inr more ↦ let r = checked_of cs x more in (r.0, later c r.0 cs r.1, r.2)
]

-- a list has an element there, or nothing is read there
within : {X : Type 0} (Q : X → Type 0) (xs : List X) (k : ℕ) (d : X) → All Q xs → Q d → Q (get_or xs k d)
within {X = X} Q xs k d all known = go xs k (recursion_from_All Q xs all)
  where
    go : (xs : List X) (k : ℕ) → AllByRecursion Q xs → Q (get_or xs k d)
    go [] k all = known
    go (x ∷ xs) zero all = all.0
    go (x ∷ xs) (suc k) all = go xs k all.1

front_all : {X : Type 0} (Q : X → Type 0) (xs ys : List X) → AllByRecursion Q (xs ++ ys) → AllByRecursion Q xs
front_all Q [] ys all = tt
front_all Q (x ∷ xs) ys all = (all.0, front_all Q xs ys all.1)

none_refused : (b : Bool) (c : EventFault) (others : Option EventFault) → unless b c others ≡ None → b ≡ true
none_refused true c others e = refl
none_refused false c others e = absurd cc

module _ {S : Type 0} (lists : SetsAreLists) (sets : SetsAsExpected) (program : Meaning S) (W : World) (one : IsOfOneProgram program W) where
  kept_packs : (k w : ℕ) → w < length W.stores → (x : Piece) → Has (pack_of W k) x → IsValid (directory_of W w) x.fields
  kept_packs k w lt x has = elim ((lists.together none (pieces (get_or W.packs k [])) x).0 has) [
    | inl never ↦ absurd (sets.none x never)
    | inr is ↦
        let c = checked_of (get_or W.packs k []) x is in
        let all = within (λ (p : List Checked). (v : ℕ) → v < length W.stores → All (IsChecked (directory_of W v) program) p) W.packs k [] one.packs (λ v _ n d below. absurd (omega (arith, below))) in
        let checked = All-contains (IsChecked (directory_of W w) program) (get_or W.packs k []) c.0 (all w lt) c.1 in
        subst (λ (y : Piece). IsValid (directory_of W w) y.fields) c.2 checked.valid
  ]

module _ {S : Type 0} (program : Meaning S) (W : World) (sound : IsSound W) where
  abbrev IsFine : ℕ → Piece → Type 0
  IsFine w x = IsValid (directory_of W w) x.fields

  elsewhere : (v w : ℕ) (x : Piece) → v < length W.stores → w < length W.stores → IsFine v x → IsFine w x
  elsewhere v w x in_v in_w fine = subst (λ (ds : Listing). IsValid ds x.fields) (sound.one v w in_v in_w) fine

  inside : (v : ℕ) → nat_lt v (length W.stores) ≡ true → v < length W.stores
  inside v e = ltb-true v (length W.stores) e

  module _ {P : Type 0} where
    -- events that are not refused, and that take what is checked, the latest first
    abbrev AreDone : List (Event P) → Type 0
    AreDone [] = Unit {0}
    AreDone (e ∷ past) = (refusal_of W past e ≡ None) × IsCheckedFor program W e × AreDone past

    -- what was taken and what is packed is valid
    record AreFine (past : List (Event P)) : Type 0 where
      took : (w : ℕ) → w < length W.stores → (x : Piece) → HasTaken W w past x → IsFine w x
      packed : (k w : ℕ) → w < length W.stores → (x : Piece) → IsPacked W k past x → IsFine w x

    made : (b : Bool) (v s w : ℕ) (before : List (Event P)) (x : Piece) → v < length W.stores → w < length W.stores → AreFine before
        → (k : ℕ) → MatchBool b ((E : Items) × (told : Summary) × HasJust E (HasTaken W v before) × IsTold W s before told × Has E x × ¬ (IsTrue (names told E x))) (IsPacked W k before x) → IsFine w x
    made true v s w before x in_v in_w fine k p = elsewhere v w x in_v in_w (fine.took v in_v x ((p.2 x).0 p.4))
    made false v s w before x in_v in_w fine k p = fine.packed k w in_w x p

    step : (e : Event P) (past : List (Event P)) → refusal_of W past e ≡ None → IsCheckedFor program W e → AreFine past → AreFine (e ∷ past)
    unfolding HasTaken IsPacked
    step (Take v item) past done checked fine = record {
      took = λ w lt x t. elim t [
        | inl before ↦ fine.took w lt x before
        | inr now ↦
            let here : v < length W.stores = subst (λ (u : ℕ). u < length W.stores) (sym now.0) lt in
            elsewhere v w x here lt (subst (IsFine v) now.1 (checked here).valid)
      ];
      packed = λ k w lt x p. fine.packed k w lt x p;
    }
    step (Deliver k v) past done checked fine = record {
      took = λ w lt x t. elim t [
        | inl before ↦ fine.took w lt x before
        | inr now ↦ fine.packed k w lt x now.1
      ];
      packed = λ k w lt x p. fine.packed k w lt x p;
    }
    step (Pack v s) past done checked fine =
        let here = inside v (none_refused (has_witness W past v) NoWitness _ done) in record {
          took = λ w lt x t. fine.took w lt x t;
          packed = λ k w lt x p. made (k == length W.packs + packs_made past) v s w past x here lt fine k p;
        }
    step (Outline v) past done checked fine = record { took = λ w lt x t. fine.took w lt x t; packed = λ k w lt x p. fine.packed k w lt x p }
    step (Summarise v) past done checked fine = record { took = λ w lt x t. fine.took w lt x t; packed = λ k w lt x p. fine.packed k w lt x p }
    step (Short v o) past done checked fine = record { took = λ w lt x t. fine.took w lt x t; packed = λ k w lt x p. fine.packed k w lt x p }
    step (Ask v node) past done checked fine = record { took = λ w lt x t. fine.took w lt x t; packed = λ k w lt x p. fine.packed k w lt x p }
    step (Export v) past done checked fine = record { took = λ w lt x t. fine.took w lt x t; packed = λ k w lt x p. fine.packed k w lt x p }

    begun : AreFine []
    unfolding HasTaken IsPacked
    begun = record { took = λ w lt x t. sound.stores w lt x t; packed = λ k w lt x p. sound.packs k w lt x p }

    fine : (past : List (Event P)) → AreDone past → AreFine past
    fine [] d = begun
    fine (e ∷ past) d = step e past d.0 d.1 (fine past d.2)

    -- ---- along a run

    turned_over : (e : Event P) (events past : List (Event P)) → (reverse (e ∷ events) ++ past) ≡ reverse events ++ (e ∷ past)
    turned_over e events past = ap (λ (l : List (Event P)). l ++ past) (reverse_onto events e []) ∙ append_assoc (reverse events) (e ∷ []) past

    done_after : (past events : List (Event P)) (replies : List Reply) → AreDone past → AllByRecursion (IsCheckedFor program W) events → AreReplies program W past events replies → AreDone (reverse events ++ past)
    done_after past [] [] done checked r = done
    done_after past [] (a ∷ replies) done checked r = absurd r
    done_after past (e ∷ events) [] done checked r = absurd r
    done_after past (e ∷ events) (a ∷ replies) done checked r =
        subst AreDone (sym (turned_over e events past)) (done_after (e ∷ past) events replies (r.0, checked.0, done) checked.1 r.2)

    -- what is asked behind those before it
    abbrev IsReached : List (Event P) → List (Event P) → ℕ → ℕ → Indication → Type 0
    IsReached past before v node i = AreDone (reverse before ++ past) × (refusal_of W (reverse before ++ past) (Ask v node) ≡ None) × IsReply W (reverse before ++ past) program (Ask v node) (Says i)

    reached : (past before later : List (Event P)) (early late : List Reply) (v node : ℕ) (i : Indication) → length before ≡ length early → AreDone past
        → AllByRecursion (IsCheckedFor program W) (before ++ Ask v node ∷ later) → AreReplies program W past (before ++ Ask v node ∷ later) (early ++ Says i ∷ late) → IsReached past before v node i
    reached past [] later [] late v node i same done checked r = (done, r.0, r.1)
    reached past [] later (a ∷ early) late v node i same done checked r = absurd (omega (arith, same))
    reached past (e ∷ before) later [] late v node i same done checked r = absurd (omega (arith, same))
    reached past (e ∷ before) later (a ∷ early) late v node i same done checked r =
        subst (λ (l : List (Event P)). AreDone l × (refusal_of W l (Ask v node) ≡ None) × IsReply W l program (Ask v node) (Says i)) (sym (turned_over e before past))
        (reached (e ∷ past) before later early late v node i (omega (arith, same)) (r.0, checked.0, done) checked.1 r.2)

    keeps : (V : World) (events : List (Event P)) (replies : List Reply) → AreChecked program W events → Ran program W events replies V → IsSound V
    keeps V events replies checked ran =
        let done = subst AreDone (append-nil (reverse events)) (done_after [] events replies tt (recursion_from_All (IsCheckedFor program W) events checked) ran.answered) in
        let all = fine (reverse events) done in record {
          one = λ v w in_v in_w. ran.left.directories v ∙ sound.one v w (before in_v) (before in_w) ∙ sym (ran.left.directories w);
          stores = λ w lt x held. subst (λ (ds : Listing). IsValid ds x.fields) (sym (ran.left.directories w)) (all.took w (before lt) x ((ran.left.sets w x).0 held));
          packs = λ k w lt x held. subst (λ (ds : Listing). IsValid ds x.fields) (sym (ran.left.directories w)) (all.packed k w (before lt) x ((ran.left.packs k x).0 held));
        }
      where
        before : {n : ℕ} → n < length V.stores → n < length W.stores
        before lt = omega (arith, lt, ran.left.witnesses)

    told : (V : World) (events : List (Event P)) (replies : List Reply) (v node : ℕ) (i : Indication) → AreChecked program W events → Ran program W events replies V → (t : IsAsked events replies v node i)
        → (A : Items) × IsTaken W v (reverse t.before) A × AreValid (directory_of W v) A × IsIndication (directory_of W v) program A node i
    told V events replies v node i checked ran t =
        let all = recursion_from_All (IsCheckedFor program W) (t.before ++ Ask v node ∷ t.later) (subst (AreChecked program W) t.asks checked) in
        let answered : AreReplies program W [] (t.before ++ Ask v node ∷ t.later) (t.early ++ Says i ∷ t.late) =
        subst (λ (l : List Reply). AreReplies program W [] (t.before ++ Ask v node ∷ t.later) l) t.says (subst (λ (l : List (Event P)). AreReplies program W [] l replies) t.asks ran.answered) in
        let r : AreDone (reverse t.before) × (refusal_of W (reverse t.before) (Ask v node) ≡ None) × IsReply W (reverse t.before) program (Ask v node) (Says i) =
        subst (λ (l : List (Event P)). AreDone l × (refusal_of W l (Ask v node) ≡ None) × IsReply W l program (Ask v node) (Says i)) (append-nil (reverse t.before))
        (reached [] t.before t.later t.early t.late v node i t.place tt all answered) in
        let here = inside v (none_refused (has_witness W (reverse t.before) v) NoWitness _ r.1) in
        (r.2.0, r.2.1, λ x held. (fine (reverse t.before) r.0).took v here x ((r.2.1 x).0 held), r.2.2)

pub sound_now : {S : Type 0} → SetsAreLists → SetsAsExpected → (program : Meaning S) (W : World) → IsOfOneProgram program W → All HasValidItems W.stores → IsSound W
sound_now lists sets program W one valid = record {
  one = one.one;
  stores = λ w lt. within HasValidItems W.stores w nothing valid (λ x held. absurd (sets.none x held));
  packs = λ k w lt x held. kept_packs lists sets program W one k w lt x held;
}

-- The events before the one at which a run stopped are the first of them, and were checked.
module _ {P S : Type 0} (program : Meaning S) (W : World) (events : List (Event P)) (f : RunFault) (V : World) (stopped : Stopped program W events f.done f.replies.items f.cause V) where
  first_is : stopped.first ≡ take f.done events
  first_is = sym (ap (λ n. take n events) (sym stopped.count) ∙ ap (take (length stopped.first)) stopped.split ∙ take-append_seam stopped.first (stopped.next ∷ stopped.others))

  first_checked : AreChecked program W events → AreChecked program W stopped.first
  first_checked checked =
      let each = recursion_from_All (IsCheckedFor program W) (stopped.first ++ stopped.next ∷ stopped.others) (subst (AreChecked program W) stopped.split checked) in
      All-from_recursion (IsCheckedFor program W) stopped.first (front_all (IsCheckedFor program W) stopped.first (stopped.next ∷ stopped.others) each)

module _ {P S : Type 0} (program : Meaning S) where
  pub keep : (W V : World) (events : List (Event P)) (replies : List Reply) → IsRun program W events replies V → IsSound V
  keep W V events replies run = keeps program W run.sound V events replies run.checked run.ran

  pub answers : AnswersAreOfValidItems P program
  answers W V events replies v node i run t = told program W run.sound V events replies v node i run.checked run.ran t

  module _ (honest : HonestNodesAreNotExposed program) where
    accurate : (W V : World) (events : List (Event P)) (replies : List Reply) → IsRun program W events replies V → ExposesNoHonestNode program W events replies
    accurate W V events replies run v node log signed t logged follows =
        let a = answers W V events replies v node Exposed run t in
        (a.0, a.1, honest (directory_of W v) a.0 node log signed a.2 logged follows a.3)

    pub runs_are_sound : RunsAreSound P program
    runs_are_sound = record { sound = keep; accurate = accurate }

    -- ---- what `run` says, where the events are done and where they stop

    pub accurate_where_done : {Y : Type 0} (W V : World) (events : List (Event P)) (result : Result Y RunFault) (replies : Y → List Reply) → AreChecked program W events
        → IfOk result (λ y. Ran program W events (replies y) V) → IsSound W → IfOk result (λ y. ExposesNoHonestNode program W events (replies y))
    accurate_where_done W V events (Ok y) replies checked ran sound = accurate W V events (replies y) (record { sound = sound; checked = checked; ran = ran })
    accurate_where_done W V events (Err f) replies checked ran sound = tt

    pub accurate_where_stopped : {Y : Type 0} (W V : World) (events : List (Event P)) (result : Result Y RunFault) → AreChecked program W events
        → IfErr result (λ f. Stopped program W events f.done f.replies.items f.cause V) → IsSound W → IfErr result (λ f. ExposesNoHonestNode program W (take f.done events) f.replies.items)
    accurate_where_stopped W V events (Ok y) checked stopped sound = tt
    accurate_where_stopped W V events (Err f) checked stopped sound =
        subst (λ (l : List (Event P)). ExposesNoHonestNode program W l f.replies.items) (first_is program W events f V stopped)
        (accurate W V stopped.first f.replies.items (record { sound = sound; checked = first_checked program W events f V stopped checked; ran = stopped.ran }))

  pub sound_either_way : {Y : Type 0} (W V : World) (events : List (Event P)) (result : Result Y RunFault) (replies : Y → List Reply) → AreChecked program W events
      → IfOk result (λ y. Ran program W events (replies y) V) → IfErr result (λ f. Stopped program W events f.done f.replies.items f.cause V) → IsSound W → IsSound V
  sound_either_way W V events (Ok y) replies checked ran stopped sound = keeps program W sound V events (replies y) checked ran
  sound_either_way W V events (Err f) replies checked ran stopped sound = keeps program W sound V stopped.first f.replies.items (first_checked program W events f V stopped checked) stopped.ran
