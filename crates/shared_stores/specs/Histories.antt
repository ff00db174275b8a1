-- Histories of calls at a store, and what one thread would do (PeerReview, SOSP 2007: a witness's evidence and its indications).
use Rattle.std.specs.Prelude.{◌≡◌, ◌+◌, ℕ, true, not, List, [], ◌∷◌, ◌++◌}
use Rattle.std.specs.Coded.{Coded, codes}
use Rattle.authenticators.specs.Directory.{Listing, is_listed}
use Rattle.replay_verifier.specs.Meaning.{Meaning}
use Rattle.item_forms.specs.Pieces.{fits_code}
use Rattle.evidence_item.specs.Validity.{IsValid}
use Rattle.evidence.specs.Exports.{export_of}
use Rattle.evidence_set.specs.Valid.{AreValid}
use Rattle.evidence_set.specs.Indications.{IsIndication}
use Rattle.evidence_set.specs.ItemSets.{Items, Join, contains, count, insert}
use Rattle.evidence.specs.Contents.{items_code}
use Rattle.shared_stores.specs.declared.history.Call.{Call}
use Rattle.shared_stores.specs.declared.history.Call.TheVariants as call
use Rattle.shared_stores.specs.declared.history.Given.{Given}
use Rattle.shared_stores.specs.declared.history.Given.TheVariants as reply
use Rattle.shared_stores.specs.declared.history.Recorded.{Recorded}

-- A call with its caller and its reply.
abbrev pub recorded : ℕ → Call → Given → Recorded
recorded caller call reply = record { caller = caller; call = call; reply = reply }

-- ---- what one thread would do

-- What a call must be. An item that is taken is valid under the directory, and so is each item that is merged. A node that is asked about
-- is listed.
abbrev pub IsAllowed : Listing → Call → Type 0
IsAllowed ds (call.Take x) = IsValid ds x.fields
IsAllowed ds (call.Merge M) = AreValid ds M
IsAllowed ds (call.Ask node) = is_listed ds node ≡ true
IsAllowed ds call.Export = Unit {0}

-- The set after a call.
abbrev pub after : Items → Call → Items
after E (call.Take x) = insert E x
after E (call.Merge M) = Join E M
after E (call.Ask node) = E
after E call.Export = E

-- The reply to a call. A taking is answered whether the item is new. A merge is answered how many items are new. A question is answered
-- what the items say of the node. An export is answered with the text of the items.
abbrev pub IsReply : {S : Type 0} → Listing → Meaning S → Items → Call → Given → Type 0
IsReply ds program E (call.Take x) (reply.Took new) = new ≡ not (contains E x)
IsReply ds program E (call.Merge M) (reply.Merged new) = count E + new ≡ count (Join E M)
IsReply ds program E (call.Ask node) (reply.Says i) = IsIndication ds program E node i
IsReply ds program E call.Export (reply.Bytes text) = text ≡ export_of E
IsReply ds program E c r = ⊥

-- The history leads from the set E to the set F. Each call is allowed, and its reply is the one that a single thread is given there.
abbrev pub Replays : {S : Type 0} → Listing → Meaning S → Items → List Recorded → Items → Type 0
Replays ds program E [] F = E ≡ F
Replays ds program E (r ∷ rs) F = IsAllowed ds r.call × IsReply ds program E r.call r.reply × Replays ds program (after E r.call) rs F

-- ---- passes

-- What a pass is: the caller's number, and its calls in their order.
pub record Notes : Type 0 where
  pub number : ℕ
  pub calls : List Recorded

-- The pass with one call more.
abbrev pub noted : Notes → Call → Given → Notes
noted p call reply = record { number = p.number; calls = p.calls ++ recorded p.number call reply ∷ [] }

-- How passes are stored in a model.
pub notes_code : Coded Notes
notes_code = Prim.hlevel (codes, fits_code, items_code)
