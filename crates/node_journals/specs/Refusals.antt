-- The number and the name of each refusal, and how faults of lower crates are reported.
use Rattle.std.specs.Prelude.{ℕ, List, codes}
use Rattle.lms_sign.specs.declared.key.KeyFault.{KeyFault}
use Rattle.lms_sign.specs.declared.key.KeyFault.TheVariants as key
use Rattle.log_chain.specs.declared.fault.FieldFault.{FieldFault}
use Rattle.log_chain.specs.declared.fault.FieldFault.TheVariants as field
use Rattle.commitment.specs.declared.fault.NewFault.{NewFault}
use Rattle.commitment.specs.declared.fault.NewFault.TheVariants as beginning
use Rattle.item_forms.specs.declared.fault.DecodeFault.{DecodeFault}
use Rattle.item_forms.specs.declared.fault.DecodeFault.TheVariants as decoding
use Rattle.node_journals.specs.declared.fault.DraftFault.{DraftFault}
use Rattle.node_journals.specs.declared.fault.DraftFault.TheVariants as draft
use Rattle.node_journals.specs.declared.fault.GiveFault.{GiveFault}
use Rattle.node_journals.specs.declared.fault.GiveFault.TheVariants as give
use Rattle.node_journals.specs.declared.fault.RebuildFault.{RebuildFault}
use Rattle.node_journals.specs.declared.fault.RebuildFault.TheVariants as rebuild
use Rattle.node_journals.specs.declared.fault.RecordFault.{RecordFault}
use Rattle.node_journals.specs.declared.fault.RecordFault.TheVariants as reading

-- ---- why a text is no record, or no beginning

-- The number of a refusal to read.
abbrev pub record_number : RecordFault → ℕ
record_number reading.UnknownLmsType = 2
record_number reading.UnknownOtsType = 3
record_number reading.Truncated = 40
record_number reading.BadTag = 41
record_number reading.TooLong = 42
record_number reading.Trailing = 43
record_number reading.BadMagic = 60
record_number reading.Memory = 99

-- The name of a refusal to read.
abbrev pub record_name : RecordFault → List ℕ
record_name reading.UnknownLmsType = codes "UnknownLmsType"
record_name reading.UnknownOtsType = codes "UnknownOtsType"
record_name reading.Truncated = codes "Truncated"
record_name reading.BadTag = codes "BadTag"
record_name reading.TooLong = codes "TooLong"
record_name reading.Trailing = codes "Trailing"
record_name reading.BadMagic = codes "BadMagic"
record_name reading.Memory = codes "Memory"

-- The refusal that a fault of a field is reported as.
abbrev pub of_field : FieldFault → RecordFault
of_field field.Truncated = reading.Truncated
of_field field.TooLong = reading.TooLong

-- The refusal that a fault of a key is reported as.
abbrev pub of_key : KeyFault → RecordFault
of_key key.KeyLength = reading.Truncated
of_key key.UnknownLmsType = reading.UnknownLmsType
of_key key.UnknownOtsType = reading.UnknownOtsType

-- The refusal that a fault of an item is reported as.
abbrev pub of_item : DecodeFault → RecordFault
of_item decoding.Truncated = reading.Truncated
of_item decoding.BadTag = reading.BadTag
of_item decoding.TooLong = reading.TooLong
of_item decoding.Trailing = reading.Trailing
of_item decoding.Memory = reading.Memory

-- ---- why nothing is drafted

-- The number of a refusal to draft.
abbrev pub draft_number : DraftFault → ℕ
draft_number draft.TooLong = 42
draft_number draft.OtherKey = 128
draft_number draft.Memory = 99

-- The name of a refusal to draft.
abbrev pub draft_name : DraftFault → List ℕ
draft_name draft.TooLong = codes "TooLong"
draft_name draft.OtherKey = codes "OtherKey"
draft_name draft.Memory = codes "Memory"

-- ---- why a node ended

-- The number of the end of a node.
abbrev pub give_number : GiveFault → ℕ
give_number give.Ended = 130

-- The name of the end of a node.
abbrev pub give_name : GiveFault → List ℕ
give_name give.Ended = codes "Ended"

-- ---- why no node is rebuilt

-- The number of a refusal to rebuild.
abbrev pub rebuild_number : RebuildFault → ℕ
rebuild_number rebuild.UnknownNode = 30
rebuild_number rebuild.WrongKey = 31
rebuild_number rebuild.Memory = 99
rebuild_number rebuild.EmptyJournal = 126
rebuild_number rebuild.NoBeginning = 127
rebuild_number rebuild.OtherProgram = 123
rebuild_number rebuild.OtherDirectory = 124
rebuild_number rebuild.OtherKey = 128
rebuild_number rebuild.BadRecord = 129

-- The name of a refusal to rebuild.
abbrev pub rebuild_name : RebuildFault → List ℕ
rebuild_name rebuild.UnknownNode = codes "UnknownNode"
rebuild_name rebuild.WrongKey = codes "WrongKey"
rebuild_name rebuild.Memory = codes "Memory"
rebuild_name rebuild.EmptyJournal = codes "EmptyJournal"
rebuild_name rebuild.NoBeginning = codes "NoBeginning"
rebuild_name rebuild.OtherProgram = codes "OtherProgram"
rebuild_name rebuild.OtherDirectory = codes "OtherDirectory"
rebuild_name rebuild.OtherKey = codes "OtherKey"
rebuild_name rebuild.BadRecord = codes "BadRecord"

-- The refusal that a fault of a new node is reported as.
abbrev pub of_new : NewFault → RebuildFault
of_new beginning.UnknownNode = rebuild.UnknownNode
of_new beginning.WrongKey = rebuild.WrongKey
of_new beginning.Memory = rebuild.Memory

-- A first text that cannot be read is no beginning, whatever is wrong with it.
abbrev pub as_no_beginning : RecordFault → RebuildFault
as_no_beginning reading.Memory = rebuild.Memory
as_no_beginning fault = rebuild.NoBeginning

-- A further text that cannot be read is no record, whatever is wrong with it.
abbrev pub as_bad_record : RecordFault → RebuildFault
as_bad_record reading.Memory = rebuild.Memory
as_bad_record fault = rebuild.BadRecord
