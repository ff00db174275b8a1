-- The number and the name of each refusal.
use Rattle.std.specs.Prelude.{ℕ, List, codes}
use Rattle.log_chain.specs.declared.fault.FieldFault.{FieldFault}
use Rattle.log_chain.specs.declared.fault.FieldFault.TheVariants as field
use Rattle.log_chain.specs.declared.fault.AppendFault.{AppendFault}
use Rattle.log_chain.specs.declared.fault.AppendFault.TheVariants as entry
use Rattle.log_chain.specs.declared.fault.SegmentFault.{SegmentFault}
use Rattle.log_chain.specs.declared.fault.SegmentFault.TheVariants as segment

-- ---- of a field

abbrev pub field_number : FieldFault → ℕ
field_number field.Truncated = 40
field_number field.TooLong = 42

abbrev pub field_name : FieldFault → List ℕ
field_name field.Truncated = codes "Truncated"
field_name field.TooLong = codes "TooLong"

-- ---- of an entry

abbrev pub append_number : AppendFault → ℕ
append_number entry.SeqNotRising = 10
append_number entry.ContentTooLong = 11
append_number entry.Memory = 99

abbrev pub append_name : AppendFault → List ℕ
append_name entry.SeqNotRising = codes "SeqNotRising"
append_name entry.ContentTooLong = codes "ContentTooLong"
append_name entry.Memory = codes "Memory"

-- ---- of a segment

abbrev pub segment_number : SegmentFault → ℕ
segment_number segment.NoEntry = 12
segment_number segment.SegmentTooLong = 13
segment_number segment.Memory = 99

abbrev pub segment_name : SegmentFault → List ℕ
segment_name segment.NoEntry = codes "NoEntry"
segment_name segment.SegmentTooLong = codes "SegmentTooLong"
segment_name segment.Memory = codes "Memory"
