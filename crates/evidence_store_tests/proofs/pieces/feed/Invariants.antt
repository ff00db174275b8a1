use Rattle.std.proofs.Common.{◌≡◌, length}
use Rattle.evidence_store_tests.proofs.pieces.feed.Given as goal

abbrev pub invariant-loop-rest : goal.invariant-loop-rest
invariant-loop-rest l = l.importer.directory ≡ l.initial.importer.directory

abbrev pub decreases-loop-rest : goal.decreases-loop-rest
decreases-loop-rest l = length l.rest
