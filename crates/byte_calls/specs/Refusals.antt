-- The number and the name of each refusal, and which refusal stands for each one of the lower crates.
use Rattle.std.specs.Prelude.{ℕ, List, codes}
use Rattle.authenticators.specs.declared.fault.DirectoryFault.{DirectoryFault}
use Rattle.authenticators.specs.declared.fault.DirectoryFault.TheVariants as listing
use Rattle.item_forms.specs.declared.fault.DecodeFault.{DecodeFault}
use Rattle.item_forms.specs.declared.fault.DecodeFault.TheVariants as reading
use Rattle.evidence_item.specs.declared.fault.ItemFault.{ItemFault}
use Rattle.evidence_item.specs.declared.fault.ItemFault.TheVariants as item
use Rattle.proofs.specs.declared.fault.ProofFault.{ProofFault}
use Rattle.proofs.specs.declared.fault.ProofFault.TheVariants as proof
use Rattle.containers.specs.declared.fault.Cause.{Cause}
use Rattle.containers.specs.declared.fault.Cause.TheVariants as cause
use Rattle.containers.specs.declared.fault.ImportFault.{ImportFault}
use Rattle.evidence.specs.declared.fault.AskFault.{AskFault}
use Rattle.evidence.specs.declared.fault.AskFault.TheVariants as asking
use Rattle.transfer.specs.declared.fault.SummaryFault.{SummaryFault}
use Rattle.transfer.specs.declared.fault.SummaryFault.TheVariants as summing
use Rattle.lms_sign.specs.declared.secret_key.MakeFault.{MakeFault}
use Rattle.lms_sign.specs.declared.secret_key.MakeFault.TheVariants as making
use Rattle.commitment.specs.declared.fault.NewFault.{NewFault}
use Rattle.commitment.specs.declared.fault.NewFault.TheVariants as beginning
use Rattle.commitment.specs.declared.fault.NodeFault.{NodeFault}
use Rattle.commitment.specs.declared.fault.NodeFault.TheVariants as node
use Rattle.challenges.specs.declared.fault.AnswerFault.{AnswerFault}
use Rattle.challenges.specs.declared.fault.AnswerFault.TheVariants as answering
use Rattle.node_journals.specs.declared.fault.RebuildFault.{RebuildFault}
use Rattle.node_journals.specs.declared.fault.RebuildFault.TheVariants as rebuilding
use Rattle.byte_calls.specs.declared.refusal.Refusal.{Refusal}
use Rattle.byte_calls.specs.declared.refusal.Refusal.TheVariants as refusal

-- The number of a refusal.
abbrev pub number_of : Refusal → ℕ
number_of refusal.UnknownLmsType = 2
number_of refusal.UnknownOtsType = 3
number_of refusal.HeightTooLarge = 4
number_of refusal.DuplicateNode = 20
number_of refusal.DuplicateKey = 21
number_of refusal.TooManyNodes = 22
number_of refusal.DirectoryMagic = 23
number_of refusal.DirectoryTruncated = 24
number_of refusal.DirectoryTrailing = 25
number_of refusal.KeyCount = 26
number_of refusal.UnlistedNode = 27
number_of refusal.NodeNotListed = 30
number_of refusal.WrongKey = 31
number_of refusal.NotMine = 32
number_of refusal.UnknownSender = 33
number_of refusal.MessageSignature = 34
number_of refusal.PayloadTooLong = 35
number_of refusal.KeySpent = 36
number_of refusal.LogFull = 37
number_of refusal.BadAck = 38
number_of refusal.NumberTaken = 39
number_of refusal.Truncated = 40
number_of refusal.BadTag = 41
number_of refusal.TooLong = 42
number_of refusal.Trailing = 43
number_of refusal.UnknownNode = 44
number_of refusal.SelfMessage = 45
number_of refusal.EmptySegment = 46
number_of refusal.BadStart = 47
number_of refusal.BadRange = 48
number_of refusal.BadSignature = 49
number_of refusal.NoContradiction = 50
number_of refusal.Conforms = 51
number_of refusal.BadMagic = 60
number_of refusal.NotAscending = 61
number_of refusal.NothingKept = 62
number_of refusal.NotForMe = 70
number_of refusal.NotInLog = 71
number_of refusal.NoAnswerNeeded = 72
number_of refusal.Memory = 99
number_of refusal.Closed = 110
number_of refusal.OtherKind = 111
number_of refusal.OtherDirectory = 112
number_of refusal.BadProgram = 113
number_of refusal.StillOpen = 114
number_of refusal.NotExposed = 115
number_of refusal.OutOfRange = 116
number_of refusal.WrongLength = 117
number_of refusal.Damaged = 122
number_of refusal.OtherProgram = 123
number_of refusal.JournalDirectory = 124
number_of refusal.EmptyJournal = 126
number_of refusal.NoBeginning = 127
number_of refusal.OtherKey = 128
number_of refusal.BadRecord = 129

-- The name of a refusal.
abbrev pub name_of : Refusal → List ℕ
name_of refusal.UnknownLmsType = codes "UnknownLmsType"
name_of refusal.UnknownOtsType = codes "UnknownOtsType"
name_of refusal.HeightTooLarge = codes "HeightTooLarge"
name_of refusal.DuplicateNode = codes "DuplicateNode"
name_of refusal.DuplicateKey = codes "DuplicateKey"
name_of refusal.TooManyNodes = codes "TooManyNodes"
name_of refusal.DirectoryMagic = codes "BadMagic"
name_of refusal.DirectoryTruncated = codes "Truncated"
name_of refusal.DirectoryTrailing = codes "Trailing"
name_of refusal.KeyCount = codes "KeyCount"
name_of refusal.UnlistedNode = codes "UnlistedNode"
name_of refusal.NodeNotListed = codes "UnknownNode"
name_of refusal.WrongKey = codes "WrongKey"
name_of refusal.NotMine = codes "NotMine"
name_of refusal.UnknownSender = codes "UnknownSender"
name_of refusal.MessageSignature = codes "BadSignature"
name_of refusal.PayloadTooLong = codes "PayloadTooLong"
name_of refusal.KeySpent = codes "KeySpent"
name_of refusal.LogFull = codes "LogFull"
name_of refusal.BadAck = codes "BadAck"
name_of refusal.NumberTaken = codes "NumberTaken"
name_of refusal.Truncated = codes "Truncated"
name_of refusal.BadTag = codes "BadTag"
name_of refusal.TooLong = codes "TooLong"
name_of refusal.Trailing = codes "Trailing"
name_of refusal.UnknownNode = codes "UnknownNode"
name_of refusal.SelfMessage = codes "SelfMessage"
name_of refusal.EmptySegment = codes "EmptySegment"
name_of refusal.BadStart = codes "BadStart"
name_of refusal.BadRange = codes "BadRange"
name_of refusal.BadSignature = codes "BadSignature"
name_of refusal.NoContradiction = codes "NoContradiction"
name_of refusal.Conforms = codes "Conforms"
name_of refusal.BadMagic = codes "BadMagic"
name_of refusal.NotAscending = codes "NotAscending"
name_of refusal.NothingKept = codes "NothingKept"
name_of refusal.NotForMe = codes "NotForMe"
name_of refusal.NotInLog = codes "NotInLog"
name_of refusal.NoAnswerNeeded = codes "NoAnswerNeeded"
name_of refusal.Memory = codes "Memory"
name_of refusal.Closed = codes "Closed"
name_of refusal.OtherKind = codes "OtherKind"
name_of refusal.OtherDirectory = codes "OtherDirectory"
name_of refusal.BadProgram = codes "BadProgram"
name_of refusal.StillOpen = codes "StillOpen"
name_of refusal.NotExposed = codes "NotExposed"
name_of refusal.OutOfRange = codes "OutOfRange"
name_of refusal.WrongLength = codes "WrongLength"
name_of refusal.Damaged = codes "Damaged"
name_of refusal.OtherProgram = codes "OtherProgram"
name_of refusal.JournalDirectory = codes "OtherDirectory"
name_of refusal.EmptyJournal = codes "EmptyJournal"
name_of refusal.NoBeginning = codes "NoBeginning"
name_of refusal.OtherKey = codes "OtherKey"
name_of refusal.BadRecord = codes "BadRecord"

-- The refusal of a directory.
abbrev pub of_directory : DirectoryFault → Refusal
of_directory listing.BadMagic = refusal.DirectoryMagic
of_directory listing.Truncated = refusal.DirectoryTruncated
of_directory listing.Trailing = refusal.DirectoryTrailing
of_directory listing.UnknownLmsType = refusal.UnknownLmsType
of_directory listing.UnknownOtsType = refusal.UnknownOtsType
of_directory listing.DuplicateNode = refusal.DuplicateNode
of_directory listing.DuplicateKey = refusal.DuplicateKey
of_directory listing.TooManyNodes = refusal.TooManyNodes
of_directory listing.KeyCount = refusal.KeyCount
of_directory listing.UnlistedNode = refusal.UnlistedNode
of_directory listing.Memory = refusal.Memory

-- The refusal of an item or a proof that cannot be read.
abbrev pub of_reading : DecodeFault → Refusal
of_reading reading.Truncated = refusal.Truncated
of_reading reading.BadTag = refusal.BadTag
of_reading reading.TooLong = refusal.TooLong
of_reading reading.Trailing = refusal.Trailing
of_reading reading.Memory = refusal.Memory

-- The refusal of an item that is not valid.
abbrev pub of_item : ItemFault → Refusal
of_item item.UnknownNode = refusal.UnknownNode
of_item item.SelfMessage = refusal.SelfMessage
of_item item.EmptySegment = refusal.EmptySegment
of_item item.BadStart = refusal.BadStart
of_item item.BadRange = refusal.BadRange
of_item item.BadSignature = refusal.BadSignature
of_item item.Memory = refusal.Memory

-- The refusal of a proof that convicts nobody.
abbrev pub of_proof : ProofFault → Refusal
of_proof proof.UnknownNode = refusal.UnknownNode
of_proof proof.SelfMessage = refusal.SelfMessage
of_proof proof.EmptySegment = refusal.EmptySegment
of_proof proof.BadStart = refusal.BadStart
of_proof proof.BadRange = refusal.BadRange
of_proof proof.BadSignature = refusal.BadSignature
of_proof proof.NoContradiction = refusal.NoContradiction
of_proof proof.Conforms = refusal.Conforms
of_proof proof.Memory = refusal.Memory

-- The refusal of a container, at whichever item of it.
abbrev pub of_cause : Cause → Refusal
of_cause cause.Truncated = refusal.Truncated
of_cause cause.BadTag = refusal.BadTag
of_cause cause.TooLong = refusal.TooLong
of_cause cause.Trailing = refusal.Trailing
of_cause cause.UnknownNode = refusal.UnknownNode
of_cause cause.SelfMessage = refusal.SelfMessage
of_cause cause.EmptySegment = refusal.EmptySegment
of_cause cause.BadStart = refusal.BadStart
of_cause cause.BadRange = refusal.BadRange
of_cause cause.BadSignature = refusal.BadSignature
of_cause cause.BadMagic = refusal.BadMagic
of_cause cause.NotAscending = refusal.NotAscending
of_cause cause.Memory = refusal.Memory

abbrev pub of_import : ImportFault → Refusal
of_import f = of_cause f.cause

-- The refusal of a question about a node.
abbrev pub of_asking : AskFault → Refusal
of_asking asking.UnknownNode = refusal.UnknownNode
of_asking asking.Memory = refusal.Memory

-- The refusal of an outline or a summary.
abbrev pub of_summary : SummaryFault → Refusal
of_summary summing.Truncated = refusal.Truncated
of_summary summing.BadTag = refusal.BadTag
of_summary summing.Trailing = refusal.Trailing
of_summary summing.BadMagic = refusal.BadMagic
of_summary summing.NotAscending = refusal.NotAscending
of_summary summing.NothingKept = refusal.NothingKept
of_summary summing.Memory = refusal.Memory

-- Why no key is made of a seed.
abbrev pub of_making : MakeFault → Refusal
of_making making.HeightTooLarge = refusal.HeightTooLarge
of_making making.Memory = refusal.Memory

-- Why no node begins.
abbrev pub of_beginning : NewFault → Refusal
of_beginning beginning.UnknownNode = refusal.NodeNotListed
of_beginning beginning.WrongKey = refusal.WrongKey
of_beginning beginning.Memory = refusal.Memory

-- Why a node refuses a call.
abbrev pub of_node : NodeFault → Refusal
of_node node.BadSignature = refusal.MessageSignature
of_node node.NotMine = refusal.NotMine
of_node node.UnknownSender = refusal.UnknownSender
of_node node.PayloadTooLong = refusal.PayloadTooLong
of_node node.KeySpent = refusal.KeySpent
of_node node.LogFull = refusal.LogFull
of_node node.BadAck = refusal.BadAck
of_node node.NumberTaken = refusal.NumberTaken
of_node node.Memory = refusal.Memory

-- Why a challenge is not answered.
abbrev pub of_answering : AnswerFault → Refusal
of_answering answering.NoAnswerNeeded = refusal.NoAnswerNeeded
of_answering answering.NotForMe = refusal.NotForMe
of_answering answering.NotInLog = refusal.NotInLog
of_answering answering.KeySpent = refusal.KeySpent
of_answering answering.LogFull = refusal.LogFull
of_answering answering.Memory = refusal.Memory

-- Why no node is rebuilt.
abbrev pub of_rebuilding : RebuildFault → Refusal
of_rebuilding rebuilding.UnknownNode = refusal.NodeNotListed
of_rebuilding rebuilding.WrongKey = refusal.WrongKey
of_rebuilding rebuilding.Memory = refusal.Memory
of_rebuilding rebuilding.EmptyJournal = refusal.EmptyJournal
of_rebuilding rebuilding.NoBeginning = refusal.NoBeginning
of_rebuilding rebuilding.OtherProgram = refusal.OtherProgram
of_rebuilding rebuilding.OtherDirectory = refusal.JournalDirectory
of_rebuilding rebuilding.OtherKey = refusal.OtherKey
of_rebuilding rebuilding.BadRecord = refusal.BadRecord
