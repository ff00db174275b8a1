-- The number and the name of each refusal.
use Rattle.std.specs.Prelude.{ℕ, List, codes}
use Rattle.durable_store.specs.declared.fault.OpenFault.{OpenFault}
use Rattle.durable_store.specs.declared.fault.OpenFault.TheVariants as opening
use Rattle.durable_store.specs.declared.fault.TakeFault.{TakeFault}
use Rattle.durable_store.specs.declared.fault.TakeFault.TheVariants as taking

-- The number of each refusal of a group.
abbrev pub take_number : TakeFault → ℕ
take_number taking.GroupTooLong = 118
take_number taking.JournalFull = 119
take_number taking.DiskFailed = 120
take_number (taking.Lost why) = 121
take_number taking.Memory = 99

-- The name of each refusal of a group, in codes.
abbrev pub take_name : TakeFault → List ℕ
take_name taking.GroupTooLong = codes "GroupTooLong"
take_name taking.JournalFull = codes "JournalFull"
take_name taking.DiskFailed = codes "DiskFailed"
take_name (taking.Lost why) = codes "Lost"
take_name taking.Memory = codes "Memory"

-- The number of each refusal to open.
abbrev pub open_number : OpenFault → ℕ
open_number opening.BadWorkers = 90
open_number opening.DiskFailed = 120
open_number opening.Damaged = 122
open_number opening.OtherProgram = 123
open_number opening.OtherDirectory = 124
open_number (opening.BadItem n) = 125
open_number opening.Memory = 99

-- The name of each refusal to open, in codes.
abbrev pub open_name : OpenFault → List ℕ
open_name opening.BadWorkers = codes "BadWorkers"
open_name opening.DiskFailed = codes "DiskFailed"
open_name opening.Damaged = codes "Damaged"
open_name opening.OtherProgram = codes "OtherProgram"
open_name opening.OtherDirectory = codes "OtherDirectory"
open_name (opening.BadItem n) = codes "BadItem"
open_name opening.Memory = codes "Memory"
