-- The number and the name of each refusal.
use Rattle.std.specs.Prelude.{ℕ, List, codes}
use Rattle.shared_stores.specs.declared.fault.QuestionFault.{QuestionFault}
use Rattle.shared_stores.specs.declared.fault.QuestionFault.TheVariants as ask
use Rattle.shared_stores.specs.declared.fault.CallFault.{CallFault}
use Rattle.shared_stores.specs.declared.fault.CallFault.TheVariants as calling
use Rattle.shared_stores.specs.declared.fault.CloseFault.{CloseFault}
use Rattle.shared_stores.specs.declared.fault.CloseFault.TheVariants as closing

-- The number of each refusal of a call.
abbrev pub call_number : CallFault → ℕ
call_number calling.DirectoryChanged = 96
call_number calling.Memory = 99

-- The name of each refusal of a call, in codes.
abbrev pub call_name : CallFault → List ℕ
call_name calling.DirectoryChanged = codes "DirectoryChanged"
call_name calling.Memory = codes "Memory"

-- The number of each refusal of a question.
abbrev pub ask_number : QuestionFault → ℕ
ask_number ask.UnknownNode = 44
ask_number ask.DirectoryChanged = 96
ask_number ask.Memory = 99

-- The name of each refusal of a question, in codes.
abbrev pub ask_name : QuestionFault → List ℕ
ask_name ask.UnknownNode = codes "UnknownNode"
ask_name ask.DirectoryChanged = codes "DirectoryChanged"
ask_name ask.Memory = codes "Memory"

-- The number of each refusal to close.
abbrev pub close_number : CloseFault → ℕ
close_number closing.PassMissing = 91
close_number closing.HistoryMismatch = 92

-- The name of each refusal to close, in codes.
abbrev pub close_name : CloseFault → List ℕ
close_name closing.PassMissing = codes "PassMissing"
close_name closing.HistoryMismatch = codes "HistoryMismatch"
