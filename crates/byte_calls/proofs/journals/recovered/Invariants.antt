use Rattle.std.proofs.Common.{◌≡◌, ◌++◌, ◌-◌, ◌≤◌, drop, length}
use Rattle.journal.specs.Journal.{recovered, texts_of}
use Rattle.byte_calls.proofs.journals.recovered.Given as goal

abbrev pub invariant-loop-len : goal.invariant-loop-len
invariant-loop-len l = record { within : l.at ≤ length l.journal; texts : recovered l.journal ≡ texts_of l.texts.items ++ recovered (drop l.at l.journal) }

abbrev pub decreases-loop-len : goal.decreases-loop-len
decreases-loop-len l = length l.journal - l.at
