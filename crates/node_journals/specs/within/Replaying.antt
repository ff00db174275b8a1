-- Part of a journal, given to a node.
use Rattle.std.specs.Prelude.{◌≡◌, ℕ, List, Ok}
use Rattle.commitment.specs.Calls.{Given}
use Rattle.commitment.specs.Nodes.{NodeState}
use Rattle.replay_verifier.specs.Meaning.{Meaning}
use Rattle.node_runs.specs.Runs.{run}
use Rattle.node_journals.specs.declared.keys.Secret.{Secret}
use Rattle.node_journals.specs.Rebuilding.{inputs_of}

-- The node was given what the records of the texts give.
pub record HasReplayed {S : Type 0} (p : Meaning S) (secrets : List Secret) (texts : List (List ℕ)) (old new : NodeState S) : Type 0 where
  pub given : List Given
  pub read : inputs_of secrets texts ≡ Ok given
  pub node : new ≡ run p old given
