-- A page to which the list of the nodes is added.
use Rattle.std.specs.Prelude.{◌≡◌, ℕ, List, ◌++◌}
use Rattle.sentences.specs.declared.explanation.NodeExplanation.{NodeExplanation}
use Rattle.explanation_pages.specs.Shown.{entries_text}

-- Behind what was written stands the list of the nodes, with other text on both sides.
pub record Lists (old now : List ℕ) (nodes : List NodeExplanation) : Type 0 where
  pub before : List ℕ
  pub behind : List ℕ
  pub is : now ≡ old ++ (before ++ (entries_text nodes ++ behind))
