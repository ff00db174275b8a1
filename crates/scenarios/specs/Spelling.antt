-- How a scenario is written, and which scenarios texts have.
use Rattle.std.specs.Prelude.{◌≡◌, ◌≢◌, ◌<◌, ◌≤◌, ◌+◌, ◌^◌, ℕ, List, ◌∷◌, ◌++◌, [], length, IsTrue, Ok, codes, decimal}
use Rattle.std.specs.List.{All, AllPairs, flat_map}
use Rattle.scenarios.specs.declared.instruction.Act.{Act}
use Rattle.scenarios.specs.declared.instruction.Act.TheVariants as act
use Rattle.scenarios.specs.declared.instruction.Kind.{Kind}
use Rattle.scenarios.specs.declared.instruction.Kind.TheVariants as kind
use Rattle.scenarios.specs.declared.instruction.Member.{Member}
use Rattle.scenarios.specs.declared.limits.TheConstants.{MOST_LINES, MOST_NODES, MOST_WITNESSES}
use Rattle.scenarios.specs.Scenarios.{Script, is_listed, node_of, scenario_of}

-- ---- what a scenario is

-- A moment has 64 bits.
abbrev pub IsMoment : Act → Type 0
IsMoment (act.Timer node moment) = moment < 2 ^ 64
IsMoment (act.Checkpoint node) = Unit {0}
IsMoment (act.Audit node) = Unit {0}
IsMoment (act.Rekey node) = Unit {0}

-- There are from 1 to `MOST_WITNESSES` witnesses, and from 1 to `MOST_NODES` nodes with different numbers of 32 bits. What happens, happens
-- to a listed node. A text has room for a line for each of these.
pub record IsScenario (s : Script) : Type 0 where
  pub some_witnesses : 1 ≤ s.witnesses
  pub few_witnesses : s.witnesses ≤ MOST_WITNESSES
  pub some_nodes : 1 ≤ length s.nodes
  pub few_nodes : length s.nodes ≤ MOST_NODES
  pub different : AllPairs (λ m n. m.id ≢ n.id) s.nodes
  pub numbers : All (λ m. m.id < 2 ^ 32) s.nodes
  pub listed : All (λ a. IsTrue (is_listed s.nodes (node_of a))) s.acts
  pub moments : All IsMoment s.acts
  pub short : 1 + length s.nodes + length s.acts ≤ MOST_LINES

-- ---- its text

-- The word for a kind of node.
abbrev pub name_of : Kind → List ℕ
name_of kind.Honest = codes "honest"
name_of kind.Fork = codes "fork"
name_of kind.Mute = codes "mute"
name_of kind.Wrong = codes "wrong"

-- A line of a word and a number, with one blank between them.
abbrev pub pair_line : List ℕ → ℕ → List ℕ
pair_line verb number = verb ++ 32 ∷ decimal number ++ 10 ∷ []

-- A line of a word, a number and a word, with one blank between two of them.
abbrev pub triple_line : List ℕ → ℕ → List ℕ → List ℕ
triple_line verb number word = verb ++ 32 ∷ decimal number ++ 32 ∷ word ++ 10 ∷ []

-- The line of a node.
abbrev pub node_line : Member → List ℕ
node_line m = triple_line (codes "node") m.id (name_of m.kind)

-- The line of what happens.
abbrev pub act_line : Act → List ℕ
act_line (act.Timer node moment) = triple_line (codes "timer") node (decimal moment)
act_line (act.Checkpoint node) = pair_line (codes "checkpoint") node
act_line (act.Audit node) = pair_line (codes "audit") node
act_line (act.Rekey node) = pair_line (codes "rekey") node

-- The text of a scenario.
unfoldable pub text_of : Script → List ℕ
text_of s = pair_line (codes "witnesses") s.witnesses ++ flat_map node_line s.nodes ++ flat_map act_line s.acts

-- ---- laws, which `laws` proves

-- What is read is a scenario, and each scenario is read from its text.
pub record ScenariosAreRead : Type 0 where
  pub found : (text : List ℕ) (s : Script) → scenario_of text ≡ Ok s → IsScenario s
  pub only : (s : Script) → IsScenario s → scenario_of (text_of s) ≡ Ok s
