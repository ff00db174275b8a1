-- Witnesses over crashes and restarts.
use Rattle.std.proofs.Common.{◌≡◌, ℕ, ◌≤◌, List, [], ◌∷◌, ◌++◌, sym, ap, subst}
use Rattle.std.specs.List.{flat_map}
use Rattle.evidence_set.specs.Indications.{IndicationsAreOne, IsIndication}
use Rattle.evidence_set.specs.ItemSets.{Items, IsWithin, none}
use Rattle.evidence.specs.Exports.{export_of}
use Rattle.durable_store.specs.Calls.{Call}
use Rattle.durable_store.specs.Keeping.{IsKept, Keeps, Kept}
use Rattle.durable_store.specs.Runs.{FilesKeepOneSet, Runs, acknowledged, given}
use Rattle.durable_store.specs.Witnesses.{AnswerAlike, IsLife, IsStoreOf, Life, Lives, Witness, WitnessesAnswerAlike, WitnessesKeepWhatTheyAcknowledged, acknowledged_by, given_to}
use Rattle.durable_store.proofs.CrashLaws.{acknowledged_both, acknowledged_keeps, begins, behind_run, crashes, given_both, given_keeps, then_within, within_itself}
use Rattle.durable_store.proofs.Sets.{one}

-- the calls of lives
abbrev answered_in : List Life → List Call
answered_in lives = flat_map (λ (life : Life). life.answered) lives

abbrev given_in : List Life → List Call
given_in lives = flat_map (λ (life : Life). life.answered ++ life.behind) lives

-- a set is between what was acknowledged and what was given
record Between (A E G : Items) : Type 0 where
  low : IsWithin A E
  high : IsWithin E G

module _ {D : Type 0} (moment : D → ℕ) (may_leave : D → List ℕ → Type 0) (left_since : D → ℕ → List ℕ → Type 0)
    (counts_now : (d : D) (t : ℕ) (file : List ℕ) → t ≤ moment d → may_leave d file → left_since d t file)
    (only_now : (d : D) (file : List ℕ) → left_since d (moment d) file → may_leave d file)
    (one_set : FilesKeepOneSet) where
  -- one life
  one_life : (basis : List (List ℕ)) (E F : Items) (life : Life) → IsLife moment may_leave left_since basis E life F → Between (acknowledged E life.answered) F (given E (life.answered ++ life.behind))
  one_life basis E F life is =
      let k = crashes moment may_leave left_since counts_now only_now is.first is.mid is.last life.answered life.behind is.file is.kept is.before_crash is.to_the_end is.left in
      let same : k.items ≡ F = one_set basis k.items F is.file (subst (λ (b : List (List ℕ)). Keeps b k.items is.file) is.basis_is k.keeps) is.keeps in
      record {
        low = subst (λ (X : Items). IsWithin (acknowledged X life.answered) F) is.items_are (subst (λ (X : Items). IsWithin (acknowledged is.first.contents.items life.answered) X) same k.least);
        high = subst (λ (X : Items). IsWithin F (given X (life.answered ++ life.behind))) is.items_are (subst (λ (X : Items). IsWithin X (given is.first.contents.items (life.answered ++ life.behind))) same k.most);
      }

  -- one behind another
  joined : (E G F : Items) (answered all later_answered later_all : List Call) → Between (acknowledged E answered) G (given E all) → Between (acknowledged G later_answered) F (given G later_all)
      → Between (acknowledged E (answered ++ later_answered)) F (given E (all ++ later_all))
  joined E G F answered all later_answered later_all first rest = record {
    low = subst (λ (X : Items). IsWithin X F) (sym (acknowledged_both E answered later_answered))
        (then_within (acknowledged (acknowledged E answered) later_answered) (acknowledged G later_answered) F (acknowledged_keeps (acknowledged E answered) G later_answered first.low) rest.low);
    high = subst (λ (X : Items). IsWithin F X) (sym (given_both E all later_all))
        (then_within F (given G later_all) (given (given E all) later_all) rest.high (given_keeps G (given E all) later_all first.high));
  }

  all_lives : (basis : List (List ℕ)) (E F : Items) (lives : List Life) → Lives moment may_leave left_since basis E lives F → Between (acknowledged E (answered_in lives)) F (given E (given_in lives))
  all_lives basis E F [] same = record { low = subst (λ (X : Items). IsWithin E X) (sym same) (within_itself E); high = subst (λ (X : Items). IsWithin X E) (sym same) (within_itself E) }
  all_lives basis E F (life ∷ lives) lived =
      joined E lived.0 F life.answered (life.answered ++ life.behind) (answered_in lives) (given_in lives) (one_life basis E lived.0 life lived.1) (all_lives basis lived.0 F lives lived.2)

  -- the present process
  now : (first store : Kept D) (calls : List Call) → IsKept may_leave first → Runs moment may_leave left_since first calls store
      → Between (acknowledged first.contents.items calls) store.contents.items (given first.contents.items calls)
  now first store calls kept ran =
      let E = first.contents.items in
      let safe = behind_run moment may_leave left_since counts_now only_now first.basis E E first store calls (begins moment may_leave left_since counts_now only_now first kept) ran in
      record { low = safe.low; high = safe.high }

  kept_between : (witness : Witness) (store : Kept D) → IsStoreOf moment may_leave left_since witness store → Between (acknowledged_by witness) store.contents.items (given_to witness)
  kept_between witness store is =
      joined none is.opened.contents.items store.contents.items (answered_in witness.lives) (given_in witness.lives) witness.calls witness.calls
      (all_lives is.opened.basis none is.opened.contents.items witness.lives is.lived) (now is.opened store witness.calls is.kept is.ran)

  pub witnesses_keep : WitnessesKeepWhatTheyAcknowledged D moment may_leave left_since
  witnesses_keep witness store is = let k = kept_between witness store is in (k.low, k.high)

-- equal sets answer alike
alike : (S : Type 0) → IndicationsAreOne S → (E F : Items) → E ≡ F → AnswerAlike S E F
alike S one_each E F same = record {
  items = same;
  exports = ap export_of same;
  indications = λ ds program node i j of of_other. one_each ds program F node i j (subst (λ (X : Items). IsIndication ds program X node i) same of) of_other;
}

pub both_alike : (S C D : Type 0) (moment : C → ℕ) (may_leave : C → List ℕ → Type 0) (left_since : C → ℕ → List ℕ → Type 0)
    (moment_too : D → ℕ) (may_leave_too : D → List ℕ → Type 0) (left_since_too : D → ℕ → List ℕ → Type 0)
    → WitnessesKeepWhatTheyAcknowledged C moment may_leave left_since → WitnessesKeepWhatTheyAcknowledged D moment_too may_leave_too left_since_too
    → IndicationsAreOne S → WitnessesAnswerAlike S C D moment may_leave left_since moment_too may_leave_too left_since_too
both_alike S C D moment may_leave left_since moment_too may_leave_too left_since_too keeps keeps_too one_each a b store other of of_other same =
    let k = keeps a store of in
    let l = keeps_too b other of_other in
    alike S one_each store.contents.items other.contents.items
    (one store.contents.items other.contents.items
    (then_within store.contents.items (given_to a) other.contents.items k.1 (then_within (given_to a) (acknowledged_by b) other.contents.items same.0 l.0))
    (then_within other.contents.items (given_to b) store.contents.items l.1 (then_within (given_to b) (acknowledged_by a) store.contents.items same.1 k.0)))
