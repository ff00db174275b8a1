use Rattle.std.proofs.Common.{◌≡◌, drop}
use Rattle.kept_evidence.specs.Telling.{told_receipt}
use Rattle.kept_evidence.proofs.challenges.have_receipt_of.Given as goal

abbrev pub invariant-loop-entry : goal.invariant-loop-entry
invariant-loop-entry l = told_receipt l.message (drop l.entry-index l.entries) l.rest ≡ told_receipt l.message l.entries l.hashes
