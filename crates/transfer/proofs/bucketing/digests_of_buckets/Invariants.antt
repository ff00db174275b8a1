use Rattle.transfer.proofs.BucketRuns.{IsSoFar}
use Rattle.transfer.proofs.bucketing.digests_of_buckets.Given as goal

abbrev pub invariant-loop-bucket : goal.invariant-loop-bucket
invariant-loop-bucket l = IsSoFar l.digests l.bucket l.rest l.found.items
