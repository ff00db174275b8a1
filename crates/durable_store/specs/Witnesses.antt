-- Witnesses over crashes and restarts: they have what they acknowledged, and nothing that nobody gave.
use Rattle.std.specs.Prelude.{◌≡◌, ℕ, List, [], ◌∷◌, ◌++◌}
use Rattle.std.specs.List.{flat_map}
use Rattle.authenticators.specs.Directory.{Listing}
use Rattle.replay_verifier.specs.Meaning.{Meaning}
use Rattle.evidence_set.specs.declared.indication.Indication.{Indication}
use Rattle.evidence_set.specs.Indications.{IsIndication}
use Rattle.evidence_set.specs.ItemSets.{Items, IsWithin, none}
use Rattle.evidence.specs.Exports.{export_of}
use Rattle.durable_store.specs.Calls.{Call}
use Rattle.durable_store.specs.Keeping.{IsKept, Keeps, Kept}
use Rattle.durable_store.specs.Runs.{Runs, acknowledged, given}

-- ---- restarts

-- What a process did that ended in a crash: the calls that it had answered before the crash, and those behind them.
pub record Life : Type 0 where
  pub answered : List Call
  pub behind : List Call

-- The process began with a store of the items E, and its crash left a file that keeps the items F.
pub record IsLife {D : Type 0} (moment : D → ℕ) (may_leave : D → List ℕ → Type 0) (left_since : D → ℕ → List ℕ → Type 0) (basis : List (List ℕ)) (E : Items) (life : Life) (F : Items) : Type 0 where
  pub first : Kept D
  pub mid : Kept D
  pub last : Kept D
  pub file : List ℕ
  pub basis_is : first.basis ≡ basis
  pub items_are : first.contents.items ≡ E
  pub kept : IsKept may_leave first
  pub before_crash : Runs moment may_leave left_since first life.answered mid
  pub to_the_end : Runs moment may_leave left_since mid life.behind last
  pub left : left_since last.device (moment mid.device) file
  pub keeps : Keeps basis F file

-- One process after another. Each has a store of what the crash before it left.
abbrev pub Lives : {D : Type 0} → (D → ℕ) → (D → List ℕ → Type 0) → (D → ℕ → List ℕ → Type 0) → List (List ℕ) → Items → List Life → Items → Type 0
Lives moment may_leave left_since basis E [] F = F ≡ E
Lives moment may_leave left_since basis E (life ∷ lives) F =
    (G : Items) × IsLife moment may_leave left_since basis E life G × Lives moment may_leave left_since basis G lives F

-- A witness: the processes that ended in a crash, and the calls that the present one answered.
pub record Witness : Type 0 where
  pub lives : List Life
  pub calls : List Call

-- The store is that of the witness, whose first process began with a new journal.
pub record IsStoreOf {D : Type 0} (moment : D → ℕ) (may_leave : D → List ℕ → Type 0) (left_since : D → ℕ → List ℕ → Type 0) (witness : Witness) (store : Kept D) : Type 0 where
  pub opened : Kept D
  pub kept : IsKept may_leave opened
  pub lived : Lives moment may_leave left_since opened.basis none witness.lives opened.contents.items
  pub ran : Runs moment may_leave left_since opened witness.calls store

-- All that was acknowledged, before each crash and by the present process.
abbrev pub acknowledged_by : Witness → Items
acknowledged_by witness = acknowledged none (flat_map (λ (life : Life). life.answered) witness.lives ++ witness.calls)

-- All that was given to the witness.
abbrev pub given_to : Witness → Items
given_to witness = given none (flat_map (λ (life : Life). life.answered ++ life.behind) witness.lives ++ witness.calls)

-- A witness has each item that it acknowledged, and none that nobody gave it, at whatever moments crashes came.
abbrev pub WitnessesKeepWhatTheyAcknowledged : (D : Type 0) → (D → ℕ) → (D → List ℕ → Type 0) → (D → ℕ → List ℕ → Type 0) → Type 0
WitnessesKeepWhatTheyAcknowledged D moment may_leave left_since =
    (witness : Witness) (store : Kept D) → IsStoreOf moment may_leave left_since witness store
    → IsWithin (acknowledged_by witness) store.contents.items × IsWithin store.contents.items (given_to witness)

-- ---- two witnesses

-- Each witness acknowledged all that was given to either.
abbrev pub AcknowledgeTheSame : Witness → Witness → Type 0
AcknowledgeTheSame a b = IsWithin (given_to a) (acknowledged_by b) × IsWithin (given_to b) (acknowledged_by a)

-- The two have the same items, export the same bytes, and say the same of each node under any directory and program.
pub record AnswerAlike (S : Type 0) (E F : Items) : Type 0 where
  pub items : E ≡ F
  pub exports : export_of E ≡ export_of F
  pub indications : (ds : Listing) (program : Meaning S) (node : ℕ) (i j : Indication) → IsIndication ds program E node i → IsIndication ds program F node j → i ≡ j

-- Two witnesses that each acknowledged what either was given answer alike. This holds at whatever moments crashes came, and whatever
-- devices their journals are on.
abbrev pub WitnessesAnswerAlike : (S C D : Type 0) → (C → ℕ) → (C → List ℕ → Type 0) → (C → ℕ → List ℕ → Type 0) → (D → ℕ) → (D → List ℕ → Type 0) → (D → ℕ → List ℕ → Type 0) → Type 0
WitnessesAnswerAlike S C D moment may_leave left_since moment_too may_leave_too left_since_too =
    (a b : Witness) (store : Kept C) (other : Kept D)
    → IsStoreOf moment may_leave left_since a store → IsStoreOf moment_too may_leave_too left_since_too b other → AcknowledgeTheSame a b
    → AnswerAlike S store.contents.items other.contents.items
