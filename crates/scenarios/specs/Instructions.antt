-- What a line of a scenario says. One blank separates two words.
use Rattle.std.specs.Prelude.{ℕ, ◌==◌, ◌&&◌, nat_le, List, [], ◌∷◌, Result, Ok, Err, codes, decimal, if◌then◌else◌}
use Rattle.std.specs.List.{slice_split}
use Rattle.std.specs.Str.{bytes_eq}
use Rattle.std.specs.Str.Parse.{digits_value}
use Rattle.outcome.specs.Outcome.{◌>>=◌}
use Rattle.scenarios.specs.declared.fault.ScenarioFault.{ScenarioFault}
use Rattle.scenarios.specs.declared.fault.ScenarioFault.TheVariants.{BadScenario}
use Rattle.scenarios.specs.declared.instruction.Act.{Act}
use Rattle.scenarios.specs.declared.instruction.Act.TheVariants as act
use Rattle.scenarios.specs.declared.instruction.Kind.{Kind}
use Rattle.scenarios.specs.declared.instruction.Kind.TheVariants as kind
use Rattle.scenarios.specs.declared.instruction.Instruction.{Instruction}
use Rattle.scenarios.specs.declared.instruction.Instruction.TheVariants as says
use Rattle.scenarios.specs.declared.limits.TheConstants.{MOST_WITNESSES}

-- ---- words

-- The words of a line.
abbrev pub words_of : List ℕ → List (List ℕ)
words_of line = slice_split (λ byte. byte == 32) line

-- The number of which the word is the decimal text, if it is at most `most`: digits without leading zeros.
unfoldable pub number_to : ℕ → List ℕ → Result ℕ ScenarioFault
number_to most word =
    if nat_le (digits_value 10 word) most && bytes_eq (decimal (digits_value 10 word)) word then Ok (digits_value 10 word) else Err BadScenario

-- The number of a node, of 32 bits.
abbrev pub id_of : List ℕ → Result ℕ ScenarioFault
id_of word = number_to 4294967295 word

-- The word for a kind of node.
unfoldable pub kind_of : List ℕ → Result Kind ScenarioFault
kind_of word =
    if bytes_eq word (codes "honest") then Ok kind.Honest
    else if bytes_eq word (codes "fork") then Ok kind.Fork
    else if bytes_eq word (codes "mute") then Ok kind.Mute
    else if bytes_eq word (codes "wrong") then Ok kind.Wrong
    else Err BadScenario

-- ---- lines

-- `witnesses W`, from 1 to `MOST_WITNESSES`.
unfoldable pub witnesses_of : List ℕ → Result Instruction ScenarioFault
witnesses_of word = do
  count ← number_to MOST_WITNESSES word
  if nat_le 1 count then Ok (says.Witnesses count) else Err BadScenario

-- `node ID KIND`.
unfoldable pub member_of : List ℕ → List ℕ → Result Instruction ScenarioFault
member_of first second = do
  id ← id_of first
  kind ← kind_of second
  Ok (says.Node (record { id = id; kind = kind }))

-- `timer ID M`, with a moment of 64 bits.
unfoldable pub timer_of : List ℕ → List ℕ → Result Instruction ScenarioFault
timer_of first second = do
  node ← id_of first
  moment ← number_to 18446744073709551615 second
  Ok (says.Happens (act.Timer node moment))

-- `checkpoint ID`, `audit ID` and `rekey ID`.
unfoldable pub happening_of : (ℕ → Act) → List ℕ → Result Instruction ScenarioFault
happening_of happens word = do
  node ← id_of word
  Ok (says.Happens (happens node))

-- What two words say.
unfoldable pub pair_of : List ℕ → List ℕ → Result Instruction ScenarioFault
pair_of verb word =
    if bytes_eq verb (codes "witnesses") then witnesses_of word
    else if bytes_eq verb (codes "checkpoint") then happening_of act.Checkpoint word
    else if bytes_eq verb (codes "audit") then happening_of act.Audit word
    else if bytes_eq verb (codes "rekey") then happening_of act.Rekey word
    else Err BadScenario

-- What three words say.
unfoldable pub triple_of : List ℕ → List ℕ → List ℕ → Result Instruction ScenarioFault
triple_of verb first second =
    if bytes_eq verb (codes "node") then member_of first second
    else if bytes_eq verb (codes "timer") then timer_of first second
    else Err BadScenario

-- What words say. No other number of them says anything.
abbrev pub said_of : List (List ℕ) → Result Instruction ScenarioFault
said_of [] = Err BadScenario
said_of (verb ∷ []) = Err BadScenario
said_of (verb ∷ word ∷ []) = pair_of verb word
said_of (verb ∷ first ∷ second ∷ []) = triple_of verb first second
said_of (verb ∷ first ∷ second ∷ third ∷ more) = Err BadScenario

-- What a line says.
unfoldable pub instruction_of : List ℕ → Result Instruction ScenarioFault
instruction_of line = said_of (words_of line)
