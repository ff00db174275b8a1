-- What lies under the lock.
use Rattle.std.specs.Prelude.{◌≡◌, ℕ, List, [], ◌∷◌, ◌++◌}
use Rattle.std.specs.Coded.{Coded, codes}
use Rattle.authenticators.specs.Directory.{Listing}
use Rattle.replay_verifier.specs.Meaning.{Meaning}
use Rattle.item_forms.specs.Pieces.{fits_code}
use Rattle.evidence_set.specs.ItemSets.{Items}
use Rattle.evidence.specs.Contents.{items_code}
use Rattle.shared_stores.specs.declared.history.Call.{Call}
use Rattle.shared_stores.specs.declared.history.Given.{Given}
use Rattle.shared_stores.specs.declared.history.Recorded.{Recorded}
use Rattle.shared_stores.specs.Histories.{IsReply, after, recorded}

-- A store's directory and its items, the set that it was opened with, and the history of the calls since then.
pub record Journal : Type 0 where
  pub directory : Listing
  pub opening : Items
  pub history : List Recorded
  pub items : Items

-- The journal after one more call.
abbrev pub stepped : Journal → ℕ → Call → Given → Journal
stepped j caller call reply =
    record { directory = j.directory; opening = j.opening; history = j.history ++ recorded caller call reply ∷ []; items = after j.items call }

-- One step. The call is answered as a single thread is, and changes the items as it does there. The history has the call at its end.
pub record Steps {S : Type 0} (program : Meaning S) (old : Journal) (caller : ℕ) (call : Call) (reply : Given) (new : Journal) : Type 0 where
  pub answered : IsReply old.directory program old.items call reply
  pub left : new ≡ stepped old caller call reply

-- How a journal is stored in a model.
pub journal_code : Coded Journal
journal_code = Prim.hlevel (codes, fits_code, items_code)
