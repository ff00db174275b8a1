use Rattle.std.proofs.Common.{subst, sym}
use Rattle.transfer.proofs.BucketRuns.{IsSoFar, all_made, is_outline, none_yet, one_more}
use Rattle.transfer.proofs.bucketing.digests_of_buckets.Goals as goal

pub loop-bucket-init : goal.loop-bucket-init
loop-bucket-init c = subst (IsSoFar c.args.digests.now 0 c.args.digests.now) (sym c.new-found.ensures.items) (none_yet c.args.digests.now c.requires)

pub loop-bucket-preserved : goal.loop-bucket-preserved
loop-bucket-preserved c =
    one_more c.args.digests.now c.loop-bucket.rest.now _ _ c.loop-bucket.found.items c.push.new.self.items c.loop-bucket.bucket c.run_length-count.result c.digest_of_run.result c.loop-bucket-test.true
    c.run_length-count.ensures.run c.run_length-count.ensures.after c.split_at.ensures.front c.split_at.ensures.back c.digest_of_run.ensures.digest c.digest_of_run.ensures.fits c.in_ok-push.ensures.items c.loop-bucket.invariant

pub returns-clause-each : goal.returns-clause-each
returns-clause-each c = all_made c.args.digests.now c.loop-bucket.rest.now c.loop-bucket.found.items c.loop-bucket.bucket c.loop-bucket-test.false c.loop-bucket.invariant

pub returns-clause-outline : goal.returns-clause-outline
returns-clause-outline c = is_outline c.args.digests.now c.loop-bucket.rest.now c.loop-bucket.found.items c.loop-bucket.bucket c.loop-bucket-test.false c.loop-bucket.invariant
