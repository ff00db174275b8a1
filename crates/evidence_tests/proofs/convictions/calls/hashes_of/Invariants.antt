use Rattle.std.proofs.Common.{◌≡◌, ◌++◌, drop}
use Rattle.log_chain.specs.Chain.{hashes}
use Rattle.evidence_tests.proofs.convictions.calls.hashes_of.Given as goal

-- the hashes so far, and those from here on, are the whole list
abbrev pub invariant-loop-entry : goal.invariant-loop-entry
invariant-loop-entry l = l.all.items ++ hashes l.hash (drop l.entry-index l.entries) ≡ hashes l.fn.prev l.entries
