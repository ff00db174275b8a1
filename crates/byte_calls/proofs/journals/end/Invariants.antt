use Rattle.std.proofs.Common.{◌≡◌, ◌+◌, ◌-◌, ◌≤◌, drop, length}
use Rattle.journal.specs.Journal.{covered}
use Rattle.byte_calls.proofs.journals.end.Given as goal

abbrev pub invariant-loop-len : goal.invariant-loop-len
invariant-loop-len l = record { within : l.end ≤ length l.journal; covers : covered l.journal ≡ l.end + covered (drop l.end l.journal) }

abbrev pub decreases-loop-len : goal.decreases-loop-len
decreases-loop-len l = length l.journal - l.end
