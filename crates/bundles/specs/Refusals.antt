-- The number, the name and the line of each refusal.
use Rattle.std.specs.Prelude.{ℕ, List, Option, Some, None, codes}
use Rattle.bundles.specs.declared.fault.BundleFault.{BundleFault}
use Rattle.bundles.specs.declared.fault.BundleFault.TheVariants as fault
use Rattle.bundles.specs.declared.fault.WriteFault.{WriteFault}
use Rattle.bundles.specs.declared.fault.WriteFault.TheVariants as writing

-- ---- of a text

-- The number of each refusal of a text.
abbrev pub number_of : BundleFault → ℕ
number_of (fault.BadBundle line) = 106
number_of fault.OlderBundle = 131
number_of fault.Memory = 99

-- The name of each refusal of a text, in codes.
abbrev pub name_of : BundleFault → List ℕ
name_of (fault.BadBundle line) = codes "BadBundle"
name_of fault.OlderBundle = codes "OlderBundle"
name_of fault.Memory = codes "Memory"

-- The line that is at fault, counted from 1.
abbrev pub line_of : BundleFault → Option ℕ
line_of (fault.BadBundle line) = Some line
line_of fault.OlderBundle = None
line_of fault.Memory = None

-- ---- of parts that are to be written

-- The number of each refusal to write a bundle.
abbrev pub write_number : WriteFault → ℕ
write_number writing.BadBundle = 106
write_number writing.Memory = 99

-- The name of each refusal to write a bundle, in codes.
abbrev pub write_name : WriteFault → List ℕ
write_name writing.BadBundle = codes "BadBundle"
write_name writing.Memory = codes "Memory"
