-- What follows from histories and from passes that agree with them. `laws` proves it.
use Rattle.std.specs.Prelude.{[], ◌≡◌, ℕ, List, ◌∷◌, ◌++◌, length, sum_by}
use Rattle.std.specs.List.{Contains}
use Rattle.authenticators.specs.Directory.{Listing}
use Rattle.replay_verifier.specs.Meaning.{Meaning}
use Rattle.item_forms.specs.Pieces.{Piece}
use Rattle.evidence_set.specs.ItemSets.{Items, Has, IsWithin}
use Rattle.shared_stores.specs.declared.history.Call.{Call}
use Rattle.shared_stores.specs.declared.history.Call.TheVariants as call
use Rattle.shared_stores.specs.declared.history.Given.{Given}
use Rattle.shared_stores.specs.declared.history.Recorded.{Recorded}
use Rattle.shared_stores.specs.Closing.{Agrees, AllAgree, calls_of, fresh}
use Rattle.shared_stores.specs.Histories.{IsReply, Notes, Replays, after}

-- A call has one reply at a set, and a history leads from a set to one other. A history in two parts leads over the set between them. After
-- a call the set has all that it had. After a taking it has the item, and after a merge the items of the other store.
pub record HistoriesAsExpected (S : Type 0) : Type 0 where
  pub one_reply : (ds : Listing) (program : Meaning S) (E : Items) (c : Call) (a b : Given) → IsReply ds program E c a → IsReply ds program E c b → a ≡ b
  pub one_end : (ds : Listing) (program : Meaning S) (E F G : Items) (history : List Recorded) → Replays ds program E history F → Replays ds program E history G → F ≡ G
  pub parts : (ds : Listing) (program : Meaning S) (E F : Items) (first later : List Recorded) → Replays ds program E (first ++ later) F → (G : Items) × Replays ds program E first G × Replays ds program G later F
  pub grows : (E : Items) (c : Call) → IsWithin E (after E c)
  pub taken : (E : Items) (x : Piece) → Has (after E (call.Take x)) x
  pub merged : (E M : Items) → IsWithin M (after E (call.Merge M))

-- What a call that was answered shows of the set after it. After a taking the item is in the set, and after a merge the other store's items
-- are. The text of all items is that of one set, and what is said of a node is what one set says. That set is within the set after the
-- call.
abbrev pub IsShown : {S : Type 0} → Listing → Meaning S → Call → Given → Items → Type 0
IsShown ds program (call.Take x) g A = Has A x
IsShown ds program (call.Merge M) g A = IsWithin M A
IsShown ds program (call.Ask node) g A = (B : Items) × IsReply ds program B (call.Ask node) g × IsWithin B A
IsShown ds program call.Export g A = (B : Items) × IsReply ds program B call.Export g × IsWithin B A

-- One set at which a caller's call is answered. A prefix of the history leads to the set. The call stands just behind that prefix. The
-- caller's earlier calls are those of the prefix, so the set has all that they put in or were shown.
pub record SeenBefore {S : Type 0} (ds : Listing) (program : Meaning S) (E : Items) (history : List Recorded) (caller : ℕ) (earlier : List Recorded) (later : Recorded) : Type 0 where
  pub before : List Recorded
  pub rest : List Recorded
  pub at : Items
  pub cut : history ≡ before ++ later ∷ rest
  pub led : Replays ds program E before at
  pub answered : IsReply ds program at later.call later.reply
  pub own : calls_of caller before ≡ earlier
  pub shown : (r : Recorded) → Contains earlier r → IsShown ds program r.call r.reply at

-- This holds for each call of a pass, if the pass agrees with the history of a single thread. All that the pass's earlier calls put in or
-- were shown is in the one set at which the call is answered.
abbrev pub OwnCallsAreSeen : Type 0 → Type 0
OwnCallsAreSeen S =
    (ds : Listing) (program : Meaning S) (E F : Items) (history : List Recorded) (p : Notes) (earlier rest : List Recorded) (later : Recorded)
    → Replays ds program E history F → Agrees history p → p.calls ≡ earlier ++ later ∷ rest
    → SeenBefore ds program E history p.number earlier later

-- Of two calls of one caller, the set of the earlier one and what it put in are within the set at which the later one is answered. So the
-- later of two questions is answered by a set that has all that the earlier one was answered by.
abbrev pub OwnSetsGrow : Type 0 → Type 0
OwnSetsGrow S =
    (ds : Listing) (program : Meaning S) (E : Items) (history : List Recorded) (caller : ℕ) (earlier between : List Recorded) (first later : Recorded)
    → (one : SeenBefore ds program E history caller earlier first) → (two : SeenBefore ds program E history caller (earlier ++ first ∷ between) later)
    → IsWithin (after one.at first.call) two.at

-- Passes that are handed out agree with an empty history. If passes and history agree, the calls of the passes are the history's, each
-- under its pass's number, and as many.
pub record PassesShareHistories : Type 0 where
  pub begun : (n : ℕ) → AllAgree n [] (fresh n)
  pub noted : (n : ℕ) (history : List Recorded) (passes : List Notes) (p : Notes) (r : Recorded) → AllAgree n history passes → Contains passes p → Contains p.calls r → Contains history r × (r.caller ≡ p.number)
  pub owned : (n : ℕ) (history : List Recorded) (passes : List Notes) (r : Recorded) → AllAgree n history passes → Contains history r → (p : Notes) × Contains passes p × Contains p.calls r
  pub count : (n : ℕ) (history : List Recorded) (passes : List Notes) → AllAgree n history passes → sum_by (λ (p : Notes). length p.calls) passes ≡ length history
