use Rattle.std.proofs.Common.{◌≡◌, ◌++◌, drop}
use Rattle.transfer.specs.within.Runs.{runs_text}
use Rattle.transfer.proofs.writing.write_parts.Given as goal

-- What is written, and what is left to write, make the whole.
abbrev pub invariant-loop-bucket : goal.invariant-loop-bucket
invariant-loop-bucket l = l.writer ++ runs_text l.bucket l.rest (drop l.bucket l.kept) ≡ l.initial.writer ++ runs_text 0 l.listed l.kept
