-- The number and the name of each refusal.
use Rattle.std.specs.Prelude.{ℕ, List, codes}
use Rattle.parallel_checking.specs.declared.fault.CheckAllFault.{CheckAllFault}
use Rattle.parallel_checking.specs.declared.fault.CheckAllFault.TheVariants as checking

-- The number of each refusal.
abbrev pub number_of : CheckAllFault → ℕ
number_of checking.BadWorkers = 90
number_of checking.LengthMismatch = 93
number_of checking.Memory = 99

-- The name of each refusal, in codes.
abbrev pub name_of : CheckAllFault → List ℕ
name_of checking.BadWorkers = codes "BadWorkers"
name_of checking.LengthMismatch = codes "LengthMismatch"
name_of checking.Memory = codes "Memory"
