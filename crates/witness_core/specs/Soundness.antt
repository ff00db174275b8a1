-- Sound worlds, and what witnesses answer in runs that begin in one (PeerReview, SOSP 2007: accuracy). These answers rest on valid items,
-- so none exposes an honest node.
use Rattle.std.specs.Prelude.{◌≡◌, ◌<◌, ◌⊎◌, ℕ, List, ◌∷◌, ◌++◌, length, reverse}
use Rattle.std.specs.List.{All}
use Rattle.log_chain.specs.declared.entry.Entry.{Entry}
use Rattle.replay_verifier.specs.Conforming.{setting_of}
use Rattle.replay_verifier.specs.Meaning.{Meaning}
use Rattle.commitment.specs.Accounts.{IsLogged, Stamp}
use Rattle.commitment.specs.Nodes.{Honest}
use Rattle.evidence_set.specs.declared.indication.Indication.{Indication}
use Rattle.evidence_set.specs.declared.indication.Indication.TheVariants.{Exposed}
use Rattle.evidence_set.specs.Collisions.{Collision}
use Rattle.evidence_set.specs.Valid.{AreValid}
use Rattle.evidence_set.specs.Forgeries.{Forged}
use Rattle.evidence_set.specs.Indications.{IsIndication}
use Rattle.evidence_set.specs.ItemSets.{Items}
use Rattle.accuracy.specs.Premises.{texts}
use Rattle.witness_core.specs.declared.event.Event.{Event}
use Rattle.witness_core.specs.declared.event.Event.TheVariants as event
use Rattle.witness_core.specs.declared.event.Reply.{Reply}
use Rattle.witness_core.specs.declared.event.Reply.TheVariants as reply
use Rattle.witness_core.specs.Answering.{AreChecked}
use Rattle.witness_core.specs.Running.{Ran}
use Rattle.witness_core.specs.Worlds.{HaveOneDirectory, IsTaken, World, directory_of, pack_of, set_of}

-- All witnesses have one directory. What they have, and what is in the packs that are kept, is valid under it.
pub record IsSound (W : World) : Type 0 where
  pub one : HaveOneDirectory W.stores
  pub stores : (w : ℕ) → w < length W.stores → AreValid (directory_of W w) (set_of W w)
  pub packs : (k w : ℕ) → w < length W.stores → AreValid (directory_of W w) (pack_of W k)

-- The events are done in a sound world, and what is taken in them was checked.
pub record IsRun {P S : Type 0} (program : Meaning S) (W : World) (events : List (Event P)) (replies : List Reply) (V : World) : Type 0 where
  pub sound : IsSound W
  pub checked : AreChecked program W events
  pub ran : Ran program W events replies V

-- One of the events asks witness v of the node, and this is its reply.
pub record IsAsked {P : Type 0} (events : List (Event P)) (replies : List Reply) (v node : ℕ) (i : Indication) : Type 0 where
  pub before : List (Event P)
  pub later : List (Event P)
  pub early : List Reply
  pub late : List Reply
  pub asks : events ≡ before ++ event.Ask v node ∷ later
  pub says : replies ≡ early ++ reply.Says i ∷ late
  pub place : length before ≡ length early

-- Suppose that a witness answers that a node is exposed. The node kept this log, whose numbers and bytes are in the ranges of their types,
-- signed these statements, and followed its program. Then what the witness took until then holds a forged statement, or two of the texts of
-- the log and of the node's segments there collide.
abbrev pub ExposesNoHonestNode : {P S : Type 0} → Meaning S → World → List (Event P) → List Reply → Type 0
ExposesNoHonestNode program W events replies =
    (v node : ℕ) (log : List Entry) (signed : List Stamp) → (asked : IsAsked events replies v node Exposed) → All IsLogged log → Honest (setting_of (directory_of W v) node program) log signed
    → (A : Items) × IsTaken W v (reverse asked.before) A × (Forged (directory_of W v) A node signed ⊎ Collision (texts log A node))

-- ---- laws, which `laws` proves

-- What a witness answers is what a set of valid items says. The set has just what the witness took until then.
abbrev pub AnswersAreOfValidItems : {S : Type 0} → Type 0 → Meaning S → Type 0
AnswersAreOfValidItems P program =
    (W V : World) (events : List (Event P)) (replies : List Reply) (v node : ℕ) (i : Indication) → IsRun program W events replies V → (asked : IsAsked events replies v node i)
    → (A : Items) × IsTaken W v (reverse asked.before) A × AreValid (directory_of W v) A × IsIndication (directory_of W v) program A node i

-- A run leaves a sound world, and no witness exposes an honest node in it.
pub record RunsAreSound {S : Type 0} (P : Type 0) (program : Meaning S) : Type 0 where
  pub sound : (W V : World) (events : List (Event P)) (replies : List Reply) → IsRun program W events replies V → IsSound V
  pub accurate : (W V : World) (events : List (Event P)) (replies : List Reply) → IsRun program W events replies V → ExposesNoHonestNode program W events replies
