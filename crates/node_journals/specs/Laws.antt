-- What is known of nodes that are rebuilt from their journals. `laws` proves it.
use Rattle.std.specs.Prelude.{◌≡◌, ◌≢◌, ℕ, List, [], ◌∷◌, ◌++◌, map, Some, Ok}
use Rattle.std.specs.List.{All, slice_get}
use Rattle.journal.specs.Journal.{IsBeforeOrAfter, recovered}
use Rattle.authenticators.specs.declared.authenticator.Authenticator.{Authenticator}
use Rattle.commitment.specs.Accounts.{Account}
use Rattle.commitment.specs.Calls.{Given, after_call}
use Rattle.commitment.specs.Growing.{OnlyAdds}
use Rattle.commitment.specs.Nodes.{NodeState}
use Rattle.node_runs.specs.Runs.{run}
use Rattle.node_journals.specs.declared.beginning.Beginning.{Beginning}
use Rattle.node_journals.specs.declared.recorded.Recorded.{Recorded}
use Rattle.node_journals.specs.Beginnings.{FitsBeginning, beginning_text}
use Rattle.node_journals.specs.Giving.{given_of}
use Rattle.node_journals.specs.Records.{FitsRecord, recorded_text}
use Rattle.node_journals.specs.Rebuilding.{Supplied, begun_as, rebuilt}

-- The texts are rebuilt to a node. Its log, statements, messages and receipts begin those of the other node.
pub record IsRebuiltBefore {S : Type 0} (by : Supplied S) (texts : List (List ℕ)) (later : NodeState S) : Type 0 where
  pub node : NodeState S
  pub is : rebuilt by texts ≡ Ok node
  pub adds : OnlyAdds node.account later.account

-- What can be rebuilt from journals, and to which nodes.
pub record JournalsRebuild (S : Type 0) : Type 0 where
  -- If a longer journal can be rebuilt, so can each journal that begins it and is not empty, and what its node keeps begins
  -- what the other's keeps.
  pub begins : (by : Supplied S) (texts further : List (List ℕ)) (n : NodeState S) → texts ≢ [] → rebuilt by (texts ++ further) ≡ Ok n → IsRebuiltBefore by texts n
  -- What a crash leaves at any moment while further texts are added is rebuilt to a node between the two.
  pub left : (by : Supplied S) (texts further : List (List ℕ)) (file : List ℕ) (m n : NodeState S) → rebuilt by texts ≡ Ok m → rebuilt by (texts ++ further) ≡ Ok n
      → IsBeforeOrAfter texts further file → (x : IsRebuiltBefore by (recovered file) n) × OnlyAdds m.account x.node.account
  -- At each moment a living node is the one that its journal is rebuilt to: at its beginning, and after each record that is
  -- written and then given.
  pub first : (by : Supplied S) (b : Beginning) → FitsBeginning b → rebuilt by (beginning_text b ∷ []) ≡ begun_as by b
  pub next : (by : Supplied S) (texts : List (List ℕ)) (n : NodeState S) (r : Recorded) (x : Given) → rebuilt by texts ≡ Ok n → FitsRecord r → given_of by.secrets r ≡ Some x
      → rebuilt by (texts ++ recorded_text r ∷ []) ≡ Ok (after_call by.program n x)
  -- So a journal that a node wrote of itself is rebuilt, unless memory runs out: to the node that began so, after it was given
  -- what is recorded.
  pub own : (by : Supplied S) (b : Beginning) (records : List Recorded) (given : List Given) (node : NodeState S) → FitsBeginning b → All FitsRecord records
      → begun_as by b ≡ Ok node → map (given_of by.secrets) records ≡ map Some given → rebuilt by (beginning_text b ∷ map recorded_text records) ≡ Ok (run by.program node given)

-- If what one node keeps begins what another keeps, the k-th statements that the two signed are the same. So each leaf of a key
-- signs one text, whatever crashes come between.
abbrev pub LeavesSignOnce : Type 0
LeavesSignOnce = (a b : Account) (k : ℕ) (s t : Authenticator) → OnlyAdds a b → slice_get a.signed k ≡ Some s → slice_get b.signed k ≡ Some t → s ≡ t
