-- The number and the name of each refusal.
use Rattle.std.specs.Prelude.{ℕ, List, codes}
use Rattle.evidence.specs.declared.fault.AskFault.{AskFault}
use Rattle.evidence.specs.declared.fault.AskFault.TheVariants as ask

-- The number of the refusal of a node that the directory does not list.
abbrev pub unknown_number : ℕ
unknown_number = 44

-- The name of that refusal.
abbrev pub unknown_name : List ℕ
unknown_name = codes "UnknownNode"

-- The number of a refusal of a question.
abbrev pub number_of : AskFault → ℕ
number_of ask.UnknownNode = unknown_number
number_of ask.Memory = 99

-- The name of a refusal of a question.
abbrev pub name_of : AskFault → List ℕ
name_of ask.UnknownNode = unknown_name
name_of ask.Memory = codes "Memory"
