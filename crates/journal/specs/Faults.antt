-- How a journal reports a device's faults.
use Rattle.journal.specs.declared.fault.DeviceFault.{DeviceFault}
use Rattle.journal.specs.declared.fault.DeviceFault.TheVariants.{Memory, Failed}
use Rattle.journal.specs.declared.fault.OpenFault.{OpenFault}
use Rattle.journal.specs.declared.fault.OpenFault.TheVariants as refused
use Rattle.journal.specs.declared.fault.AppendFault.{AppendFault}
use Rattle.journal.specs.declared.fault.AppendFault.TheVariants as stopped

-- The fault that is reported if the device's fault comes while a file is opened.
abbrev pub opening : DeviceFault → OpenFault
opening Memory = refused.Memory
opening Failed = refused.Failed

-- The fault that is reported if the device's fault comes before a group's gate is opened.
abbrev pub appending : DeviceFault → AppendFault
appending Memory = stopped.Memory
appending Failed = stopped.Failed

-- After this fault it is not known whether the group is there.
abbrev pub IsInDoubt : AppendFault → Type 0
IsInDoubt (stopped.InDoubt fault) = Unit {0}
IsInDoubt fault = ⊥
