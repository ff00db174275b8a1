-- Histories of a shared store as events of a world with one witness (PeerReview, SOSP 2007: witnesses and evidence).
use Rattle.std.specs.Prelude.{◌≡◌, ◌<◌, ◌↔◌, List, [], ◌∷◌, length, map, reverse}
use Rattle.authenticators.specs.Directory.{Listing}
use Rattle.replay_verifier.specs.Meaning.{Meaning}
use Rattle.item_forms.specs.Pieces.{Piece}
use Rattle.evidence_set.specs.ItemSets.{Items, Has}
use Rattle.witness_core.specs.declared.event.Event.{Event}
use Rattle.witness_core.specs.declared.event.Event.TheVariants as event
use Rattle.witness_core.specs.declared.event.Reply.{Reply}
use Rattle.witness_core.specs.declared.event.Reply.TheVariants as reply
use Rattle.witness_core.specs.Answering.{AreChecked, AreReplies}
use Rattle.witness_core.specs.Worlds.{World, IsOfOneProgram, HasTaken, pack_of}
use Rattle.shared_stores.specs.declared.history.Call.{Call}
use Rattle.shared_stores.specs.declared.history.Call.TheVariants as call
use Rattle.shared_stores.specs.declared.history.Given.{Given}
use Rattle.shared_stores.specs.declared.history.Given.TheVariants as given
use Rattle.shared_stores.specs.declared.history.Recorded.{Recorded}
use Rattle.shared_stores.specs.Histories.{Replays}

-- The world has one witness, with this directory and this set.
abbrev pub HasOneWitness : World → Listing → Items → Type 0
HasOneWitness W ds E = W.stores ≡ record { directory = ds; items = E } ∷ []

-- The event is what the call is in the world. It is the event of the call's name at the one witness, with the same item or node. A merge is
-- the delivery of a pack that the world keeps and that has the merged items.
abbrev pub IsEventOf : {P : Type 0} → World → Call → Event P → Type 0
IsEventOf W (call.Take x) (event.Take v item) = (v ≡ 0) × (item.item ≡ x)
IsEventOf W (call.Merge M) (event.Deliver k v) = (v ≡ 0) × (k < length W.packs) × (pack_of W k ≡ M)
IsEventOf W (call.Ask node) (event.Ask v asked) = (v ≡ 0) × (asked ≡ node)
IsEventOf W call.Export (event.Export v) = v ≡ 0
IsEventOf W c e = ⊥

-- The events are what the calls of a history are, one after the other.
abbrev pub AreEventsOf : {P : Type 0} → World → List Recorded → List (Event P) → Type 0
AreEventsOf W [] [] = Unit {0}
AreEventsOf W (r ∷ history) (e ∷ events) = IsEventOf W r.call e × AreEventsOf W history events
AreEventsOf W history events = ⊥

-- A reply of the store, as the world gives it.
abbrev pub told : Given → Reply
told (given.Took new) = reply.Took new
told (given.Merged new) = reply.Delivered new
told (given.Says i) = reply.Says i
told (given.Bytes text) = reply.Bytes text

-- The replies of a history, as the world gives them.
abbrev pub told_in : List Recorded → List Reply
told_in history = map (λ (r : Recorded). told r.reply) history

-- The events are done. None is refused, each is answered with its reply, and the set has just what the one witness took in them.
pub record IsRun {P S : Type 0} (program : Meaning S) (W : World) (events : List (Event P)) (replies : List Reply) (F : Items) : Type 0 where
  pub answered : AreReplies program W [] events replies
  pub took : (x : Piece) → Has F x ↔ HasTaken W 0 (reverse events) x

-- A world in which the events can happen that are the history's calls. What is kept there, and what is taken, is checked.
pub record IsWorldOf {P S : Type 0} (program : Meaning S) (ds : Listing) (E : Items) (history : List Recorded) (W : World) (events : List (Event P)) : Type 0 where
  pub one : HasOneWitness W ds E
  pub kept : IsOfOneProgram program W
  pub are : AreEventsOf W history events
  pub checked : AreChecked program W events

-- ---- laws, which `laws` proves

-- Suppose that a history leads from the set of the one witness to the set F, as a single thread's history does. Then it is a run of its
-- events.
abbrev pub HistoriesAreRuns : Type 0 → Type 0 → Type 0
HistoriesAreRuns P S =
    (ds : Listing) (program : Meaning S) (W : World) (E F : Items) (history : List Recorded) (events : List (Event P))
    → HasOneWitness W ds E → AreEventsOf W history events → Replays ds program E history F
    → IsRun program W events (told_in history) F

-- Each such history has such a world and such events, with checked items alone.
abbrev pub HistoriesHaveWorlds : {S : Type 0} → Type 0 → Meaning S → Type 0
HistoriesHaveWorlds P program =
    (ds : Listing) (E F : Items) (history : List Recorded) → Replays ds program E history F
    → (W : World) × (events : List (Event P)) × IsWorldOf program ds E history W events
