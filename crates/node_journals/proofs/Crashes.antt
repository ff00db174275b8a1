-- What a crash leaves of a journal is rebuilt, to a node that stands between the two.
use Rattle.std.proofs.Common.{◌≡◌, ◌≢◌, ℕ, List, [], ◌∷◌, ◌++◌, Option, Some, Result, Ok, Err, refl, sym, ap, subst, ◌∙◌, inl, inr}
use Rattle.std.specs.Prelude.{map}
use Rattle.std.specs.Option.{ok_or}
use Rattle.std.specs.List.{All}
use Rattle.std.proofs.lemmas.List.Elements.{All-head, All-tail}
use Rattle.outcome.specs.Outcome.{◌>>=◌, told_as}
use Rattle.outcome.proofs.Steps.{bind_ok, Ok-inj}
use Rattle.commitment.specs.Calls.{Given, after_call}
use Rattle.commitment.specs.Growing.{GrowsTo, OnlyAdds}
use Rattle.commitment.specs.Nodes.{NodeState}
use Rattle.replay_verifier.specs.Meaning.{Meaning}
use Rattle.journal.specs.Journal.{IsBeforeOrAfter, recovered}
use Rattle.node_runs.specs.Runs.{RunsOnlyAdd, run}
use Rattle.node_journals.specs.declared.beginning.Beginning.{Beginning}
use Rattle.node_journals.specs.declared.fault.RebuildFault.{RebuildFault}
use Rattle.node_journals.specs.declared.fault.RebuildFault.TheVariants.{OtherKey}
use Rattle.node_journals.specs.declared.fault.RecordFault.{RecordFault}
use Rattle.node_journals.specs.declared.keys.Secret.{Secret}
use Rattle.node_journals.specs.declared.recorded.Recorded.{Recorded}
use Rattle.node_journals.specs.Beginnings.{BeginningsReadBack, FitsBeginning, beginning_text}
use Rattle.node_journals.specs.Giving.{given_of}
use Rattle.node_journals.specs.Laws.{IsRebuiltBefore, JournalsRebuild}
use Rattle.node_journals.specs.Rebuilding.{Supplied, begun_as, first_of, input_of, inputs_of, rebuilt, replayed}
use Rattle.node_journals.specs.Records.{FitsRecord, RecordsReadBack, recorded_text}
use Rattle.node_journals.specs.Refusals.{as_bad_record, as_no_beginning}
use Rattle.node_journals.proofs.Rebuilt.{behind_beginning}
use Rattle.node_journals.proofs.Replaying.{inputs_append}

abbrev Inputs : Type 0
Inputs = Result (List Given) RebuildFault

module _ {S : Type 0} (runs : RunsOnlyAdd S) where
  adds_nothing : (p : Meaning S) (n : NodeState S) → OnlyAdds n.account n.account
  unfolding run
  adds_nothing p n = runs.adds p n []

  -- ---- a journal that another one begins

  pub record Parts (p : Meaning S) (secrets : List Secret) (first : NodeState S) (texts further : List (List ℕ)) (n : NodeState S) : Type 0 where
    some : List Given
    others : List Given
    is : inputs_of secrets texts ≡ Ok some
    node : n ≡ run p first (some ++ others)

  parts_of : (p : Meaning S) (secrets : List Secret) (first : NodeState S) (texts further : List (List ℕ)) (n : NodeState S) → replayed p secrets first (texts ++ further) ≡ Ok n → Parts p secrets first texts further n
  unfolding replayed
  parts_of p secrets first texts further n e =
      let all = bind_ok (inputs_of secrets (texts ++ further)) (λ xs. Ok (run p first xs)) n e in
      let read = sym (inputs_append secrets texts further) ∙ all.1 in
      let front = bind_ok (inputs_of secrets texts) (λ xs. inputs_of secrets further >>= λ ys. Ok (xs ++ ys)) all.0 read in
      let back = bind_ok (inputs_of secrets further) (λ ys. Ok (front.0 ++ ys)) all.0 front.2 in
      record {
        some = front.0;
        others = back.0;
        is = front.1;
        node = sym (Ok-inj {E = RebuildFault} (run p first all.0) n all.2) ∙ ap (run p first) (sym (Ok-inj {E = RebuildFault} (front.0 ++ back.0) all.0 back.2));
      }

  all_given : (p : Meaning S) (secrets : List Secret) (first : NodeState S) (texts : List (List ℕ)) (given : List Given) → inputs_of secrets texts ≡ Ok given → replayed p secrets first texts ≡ Ok (run p first given)
  unfolding replayed
  all_given p secrets first texts given is = ap (λ (r : Inputs). r >>= λ xs. Ok (run p first xs)) is

  module _ (by : Supplied S) where
    begins : (texts further : List (List ℕ)) (n : NodeState S) → texts ≢ [] → rebuilt by (texts ++ further) ≡ Ok n → IsRebuiltBefore by texts n
    unfolding rebuilt
    begins [] further n some e = absurd (some refl)
    begins (text ∷ texts) further n some e =
        let p = by.program in
        let b = bind_ok (first_of (text ∷ texts)) (λ x. begun_as by x >>= λ m. replayed p by.secrets m (texts ++ further)) n e in
        let first = bind_ok (begun_as by b.0) (λ m. replayed p by.secrets m (texts ++ further)) n b.2 in
        let parts = parts_of p by.secrets first.0 texts further n first.2 in
        let grows : GrowsTo parts.some (parts.some ++ parts.others) = record { more = parts.others; is = refl } in
        record {
          node = run p first.0 parts.some;
          is = behind_beginning by (text ∷ texts) b.0 first.0 b.1 first.1 ∙ all_given p by.secrets first.0 texts parts.some parts.is;
          adds = subst (λ (m : NodeState S). OnlyAdds (run p first.0 parts.some).account m.account) (sym parts.node) (runs.two p first.0 parts.some (parts.some ++ parts.others) grows);
        }

    has_some : (texts : List (List ℕ)) (n : NodeState S) → rebuilt by texts ≡ Ok n → texts ≢ []
    unfolding rebuilt
    has_some [] n e = λ _. absurd cc
    has_some (text ∷ texts) n e = λ none. absurd cc

    -- ---- what a crash leaves

    left : (texts further : List (List ℕ)) (file : List ℕ) (m n : NodeState S) → rebuilt by texts ≡ Ok m → rebuilt by (texts ++ further) ≡ Ok n
        → IsBeforeOrAfter texts further file → (x : IsRebuiltBefore by (recovered file) n) × OnlyAdds m.account x.node.account
    left texts further file m n first second h =
        let b = begins texts further n (has_some texts m first) second in
        let same : b.node ≡ m = Ok-inj {E = RebuildFault} b.node m (sym b.is ∙ first) in
        let adds : OnlyAdds m.account n.account = subst (λ (x : NodeState S). OnlyAdds x.account n.account) same b.adds in
        either adds h
      where
        either : OnlyAdds m.account n.account → IsBeforeOrAfter texts further file → (x : IsRebuiltBefore by (recovered file) n) × OnlyAdds m.account x.node.account
        either adds (inl before) = (record { node = m; is = ap (rebuilt by) before.0 ∙ first; adds = adds }, adds_nothing by.program m)
        either adds (inr after) = (record { node = n; is = ap (rebuilt by) after.0 ∙ second; adds = adds_nothing by.program n }, adds)

    -- ---- what a node wrote of itself

    module _ (beginnings : BeginningsReadBack) (records : RecordsReadBack) where
      input_again : (r : Recorded) (x : Given) → FitsRecord r → given_of by.secrets r ≡ Some x → input_of by.secrets (recorded_text r) ≡ Ok x
      unfolding input_of
      input_again r x fits gives =
          ap (λ (s : Result Recorded RecordFault). told_as as_bad_record s >>= λ y. ok_or (given_of by.secrets y) OtherKey) (records.only r fits)
          ∙ ap (λ (o : Option Given). ok_or o OtherKey) gives

      inputs_again : (rs : List Recorded) (given : List Given) → All FitsRecord rs → map (given_of by.secrets) rs ≡ map Some given → inputs_of by.secrets (map recorded_text rs) ≡ Ok given
      unfolding inputs_of
      inputs_again [] [] fits gives = refl
      inputs_again [] (x ∷ xs) fits gives = absurd cc
      inputs_again (r ∷ rs) [] fits gives = absurd cc
      inputs_again (r ∷ rs) (x ∷ xs) fits gives =
          let head : given_of by.secrets r ≡ Some x = cc in
          let tail : map (given_of by.secrets) rs ≡ map Some xs = cc in
          ap (λ (s : Result Given RebuildFault). s >>= λ y. inputs_of by.secrets (map recorded_text rs) >>= λ ys. Ok (y ∷ ys)) (input_again r x (All-head FitsRecord r rs fits) head)
          ∙ ap (λ (s : Inputs). s >>= λ ys. Ok (x ∷ ys)) (inputs_again rs xs (All-tail FitsRecord r rs fits) tail)

      first : (b : Beginning) → FitsBeginning b → rebuilt by (beginning_text b ∷ []) ≡ begun_as by b
      unfolding rebuilt replayed inputs_of run
      first b fits =
          ap (λ (r : Result Beginning RecordFault). told_as as_no_beginning r >>= λ x. begun_as by x >>= λ m. Ok m) (beginnings.only b fits)
          ∙ sym (same_node (begun_as by b))
        where
          same_node : (r : Result (NodeState S) RebuildFault) → r ≡ (r >>= λ m. Ok m)
          same_node (Ok n) = refl
          same_node (Err e) = refl

      one_given : (r : Recorded) (x : Given) → FitsRecord r → given_of by.secrets r ≡ Some x → inputs_of by.secrets (recorded_text r ∷ []) ≡ Ok (x ∷ [])
      unfolding inputs_of
      one_given r x fits gives = ap (λ (s : Result Given RebuildFault). s >>= λ y. Ok (y ∷ [])) (input_again r x fits gives)

      given_more : (m n : NodeState S) (texts : List (List ℕ)) (r : Recorded) (x : Given) → replayed by.program by.secrets m texts ≡ Ok n → FitsRecord r → given_of by.secrets r ≡ Some x
          → replayed by.program by.secrets m (texts ++ recorded_text r ∷ []) ≡ Ok (after_call by.program n x)
      unfolding replayed run
      given_more m n texts r x e fits gives =
          let p = by.program in
          let all = bind_ok (inputs_of by.secrets texts) (λ xs. Ok (run p m xs)) n e in
          let same : run p m all.0 ≡ n = Ok-inj {E = RebuildFault} (run p m all.0) n all.2 in
          ap (λ (s : Inputs). s >>= λ xs. Ok (run p m xs)) (inputs_append by.secrets texts (recorded_text r ∷ []))
          ∙ ap (λ (s : Inputs). (s >>= λ xs. inputs_of by.secrets (recorded_text r ∷ []) >>= λ ys. Ok (xs ++ ys)) >>= λ xs. Ok (run p m xs)) all.1
          ∙ ap (λ (s : Inputs). (s >>= λ ys. Ok (all.0 ++ ys)) >>= λ xs. Ok (run p m xs)) (one_given r x fits gives)
          ∙ ap (λ (k : NodeState S). Ok k) (runs.parts p m all.0 (x ∷ []) ∙ ap (λ (k : NodeState S). after_call p k x) same)

      next : (texts : List (List ℕ)) (n : NodeState S) (r : Recorded) (x : Given) → rebuilt by texts ≡ Ok n → FitsRecord r → given_of by.secrets r ≡ Some x
          → rebuilt by (texts ++ recorded_text r ∷ []) ≡ Ok (after_call by.program n x)
      unfolding rebuilt
      next [] n r x e fits gives = absurd cc
      next (text ∷ texts) n r x e fits gives =
          let b = bind_ok (first_of (text ∷ texts)) (λ y. begun_as by y >>= λ m. replayed by.program by.secrets m texts) n e in
          let m = bind_ok (begun_as by b.0) (λ m. replayed by.program by.secrets m texts) n b.2 in
          behind_beginning by (text ∷ texts ++ recorded_text r ∷ []) b.0 m.0 b.1 m.1 ∙ given_more m.0 n texts r x m.2 fits gives

      own : (b : Beginning) (rs : List Recorded) (given : List Given) (first : NodeState S) → FitsBeginning b → All FitsRecord rs → begun_as by b ≡ Ok first → map (given_of by.secrets) rs ≡ map Some given
          → rebuilt by (beginning_text b ∷ map recorded_text rs) ≡ Ok (run by.program first given)
      unfolding replayed
      own b rs given first fits all begun gives =
          behind_beginning by (beginning_text b ∷ map recorded_text rs) b first (ap (told_as as_no_beginning) (beginnings.only b fits)) begun
          ∙ ap (λ (r : Inputs). r >>= λ xs. Ok (run by.program first xs)) (inputs_again rs given all gives)

pub journals_back : {S : Type 0} → BeginningsReadBack → RecordsReadBack → RunsOnlyAdd S → JournalsRebuild S
journals_back {S} beginnings records runs = record {
  begins = λ by. begins runs by;
  left = λ by. left runs by;
  first = λ by. first runs by beginnings records;
  next = λ by. next runs by beginnings records;
  own = λ by b rs given first. own runs by beginnings records b rs given first;
}
