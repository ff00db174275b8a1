-- The number and the name of each refusal.
use Rattle.std.specs.Prelude.{ℕ, List, codes}
use Rattle.scenarios.specs.declared.fault.ScenarioFault.{ScenarioFault}
use Rattle.scenarios.specs.declared.fault.ScenarioFault.TheVariants as fault

-- The number of each refusal.
abbrev pub number_of : ScenarioFault → ℕ
number_of fault.BadScenario = 105
number_of fault.Memory = 99

-- The name of each refusal, in codes.
abbrev pub name_of : ScenarioFault → List ℕ
name_of fault.BadScenario = codes "BadScenario"
name_of fault.Memory = codes "Memory"
