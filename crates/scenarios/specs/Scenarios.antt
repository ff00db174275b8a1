-- Which text is which scenario. A text is read line by line, whole, before anything runs.
use Rattle.std.specs.Prelude.{ℕ, ◌==◌, ◌&&◌, not, nat_le, nat_lt, Bool, true, List, [], ◌∷◌, ◌++◌, length, Option, Some, None, is_some, Result, Ok, Err, if◌then◌else◌}
use Rattle.std.specs.List.{list_all, list_any, slice_split}
use Rattle.outcome.specs.Outcome.{◌>>=◌}
use Rattle.scenarios.specs.declared.fault.ScenarioFault.{ScenarioFault}
use Rattle.scenarios.specs.declared.fault.ScenarioFault.TheVariants.{BadScenario}
use Rattle.scenarios.specs.declared.instruction.Act.{Act}
use Rattle.scenarios.specs.declared.instruction.Act.TheVariants as act
use Rattle.scenarios.specs.declared.instruction.Member.{Member}
use Rattle.scenarios.specs.declared.instruction.Instruction.{Instruction}
use Rattle.scenarios.specs.declared.instruction.Instruction.TheVariants as says
use Rattle.scenarios.specs.declared.limits.TheConstants.{MOST_LINES, MOST_NODES}
use Rattle.scenarios.specs.Instructions.{instruction_of}

-- A scenario: how many witnesses there are, the nodes, and what happens to them, in order.
pub record Script : Type 0 where
  pub witnesses : ℕ
  pub nodes : List Member
  pub acts : List Act

-- ---- lines

-- The parts between line feeds, without the last one if that is empty.
abbrev pub ended : List (List ℕ) → List (List ℕ)
ended [] = []
ended (line ∷ []) = if length line == 0 then [] else line ∷ []
ended (line ∷ next ∷ more) = line ∷ ended (next ∷ more)

-- The lines of a text. Each ends with a line feed, which the last may lack.
unfoldable pub lines_of : List ℕ → List (List ℕ)
lines_of text = ended (slice_split (λ byte. byte == 10) text)

-- Whether a line is skipped: it is empty, or begins with `#`.
abbrev pub is_skipped : List ℕ → Bool
is_skipped [] = true
is_skipped (byte ∷ rest) = byte == 35

-- ---- the order of lines

-- What was read so far.
pub record Draft : Type 0 where
  pub witnesses : Option ℕ
  pub nodes : List Member
  pub acts : List Act

-- Nothing was read.
abbrev pub nothing : Draft
nothing = record { witnesses = None; nodes = []; acts = [] }

-- The node to which it happens.
abbrev pub node_of : Act → ℕ
node_of (act.Timer node moment) = node
node_of (act.Checkpoint node) = node
node_of (act.Audit node) = node
node_of (act.Rekey node) = node

-- Whether a node with this number is listed.
abbrev pub is_listed : List Member → ℕ → Bool
is_listed nodes id = list_any (λ m. m.id == id) nodes

-- The witnesses come first, and once.
abbrev pub has_no_line : Draft → Bool
has_no_line d = not (is_some d.witnesses)

-- Then the nodes, at most `MOST_NODES` and each once, before anything happens.
abbrev pub takes_node : Draft → ℕ → Bool
takes_node d id = is_some d.witnesses && nat_lt (length d.nodes) MOST_NODES && (length d.acts == 0) && not (is_listed d.nodes id)

-- Then what happens, to listed nodes.
unfoldable pub taken : Draft → Instruction → Result Draft ScenarioFault
taken d (says.Witnesses count) = if has_no_line d then Ok (record d { witnesses = Some count }) else Err BadScenario
taken d (says.Node m) = if takes_node d m.id then Ok (record d { nodes = d.nodes ++ m ∷ [] }) else Err BadScenario
taken d (says.Happens a) = if is_listed d.nodes (node_of a) then Ok (record d { acts = d.acts ++ a ∷ [] }) else Err BadScenario

-- What was read, with one more line.
unfoldable pub line_taken : Draft → List ℕ → Result Draft ScenarioFault
line_taken d line = if is_skipped line then Ok d else (instruction_of line >>= taken d)

-- What was read, with all of these lines.
unfoldable pub lines_taken : Draft → List (List ℕ) → Result Draft ScenarioFault
lines_taken d [] = Ok d
lines_taken d (line ∷ lines) = do
  next ← line_taken d line
  lines_taken next lines

-- The scenario, if the number of witnesses was said and there is a node.
abbrev pub completed : Option ℕ → List Member → List Act → Result Script ScenarioFault
completed None nodes acts = Err BadScenario
completed (Some count) [] acts = Err BadScenario
completed (Some count) (m ∷ ms) acts = Ok (record { witnesses = count; nodes = m ∷ ms; acts = acts })

-- ---- the text

-- Whether the bytes are below 128, in at most `MOST_LINES` lines, skipped ones counted.
abbrev pub is_readable : List ℕ → Bool
is_readable text = list_all (λ byte. nat_lt byte 128) text && nat_le (length (lines_of text)) MOST_LINES

-- What the lines of a text say, all of them.
unfoldable pub script_of : List (List ℕ) → Result Script ScenarioFault
script_of lines = do
  draft ← lines_taken nothing lines
  completed draft.witnesses draft.nodes draft.acts

-- The scenario of a text.
unfoldable pub scenario_of : List ℕ → Result Script ScenarioFault
scenario_of text = if is_readable text then script_of (lines_of text) else Err BadScenario
