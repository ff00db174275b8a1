-- A node's run: what it is given, in order, and what it becomes. A refused call leaves the node as it was.
use Rattle.std.specs.Prelude.{◌≡◌, List, [], ◌∷◌, ◌++◌}
use Rattle.commitment.specs.Calls.{Given, after_call}
use Rattle.commitment.specs.Growing.{GrowsTo, OnlyAdds}
use Rattle.commitment.specs.Nodes.{NodeState}
use Rattle.replay_verifier.specs.Meaning.{Meaning}

-- The node after it was given all of these, in order.
unfoldable pub run : {S : Type 0} → Meaning S → NodeState S → List Given → NodeState S
run p n [] = n
run p n (x ∷ xs) = run p (after_call p n x) xs

-- ---- a law, which `runs_only_add` proves

-- A run only adds to what the node keeps.
pub record RunsOnlyAdd (S : Type 0) : Type 0 where
  -- a run of inputs and of further ones is the run of the further ones from where the first ends
  pub parts : (p : Meaning S) (n : NodeState S) (xs ys : List Given) → run p n (xs ++ ys) ≡ run p (run p n xs) ys
  -- what was kept stays, and more may come behind it
  pub adds : (p : Meaning S) (n : NodeState S) (xs : List Given) → OnlyAdds n.account (run p n xs).account
  pub directory : (p : Meaning S) (n : NodeState S) (xs : List Given) → (run p n xs).directory ≡ n.directory
  -- so if one of two runs from one beginning was given the first inputs of the other, what it keeps begins what the other keeps
  pub two : (p : Meaning S) (n : NodeState S) (xs ys : List Given) → GrowsTo xs ys → OnlyAdds (run p n xs).account (run p n ys).account
