use Rattle.std.proofs.Common.{take}
use Rattle.sha2.specs.Hashers.{Holds256}
use Rattle.transfer.specs.Digests.{joined}
use Rattle.transfer.proofs.bucketing.digest_of_run.Given as goal

abbrev pub invariant-loop-digest : goal.invariant-loop-digest
invariant-loop-digest l = Holds256 l.hasher (joined (take l.digest-index l.digests))
