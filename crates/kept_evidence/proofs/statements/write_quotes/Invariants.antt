use Rattle.std.proofs.Common.{◌≡◌, ◌++◌, drop}
use Rattle.kept_evidence.specs.Telling.{told_quotes}
use Rattle.kept_evidence.proofs.statements.write_quotes.Given as goal

abbrev pub invariant-loop-entry : goal.invariant-loop-entry
invariant-loop-entry l = l.statements.items ++ told_quotes (drop l.entry-index l.entries) l.rest ≡ l.initial.statements.items ++ told_quotes l.entries l.hashes
