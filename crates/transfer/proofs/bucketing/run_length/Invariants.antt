use Rattle.std.proofs.Common.{◌≡◌, ◌++◌, take, drop}
use Rattle.transfer.specs.within.Runs.{after_run, run_of}
use Rattle.transfer.proofs.bucketing.run_length.Given as goal

abbrev pub invariant-loop-n : goal.invariant-loop-n
invariant-loop-n l = (run_of l.bucket l.digests ≡ take l.n l.digests ++ run_of l.bucket (drop l.n l.digests)) × (after_run l.bucket l.digests ≡ after_run l.bucket (drop l.n l.digests))
