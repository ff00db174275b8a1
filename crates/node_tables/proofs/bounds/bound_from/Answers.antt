use Rattle.std.proofs.Common.{◌<◌, length, arith}
use Rattle.node_tables.proofs.Spanned.{one_bound}
use Rattle.node_tables.proofs.bounds.bound_from.Goals as goal

pub loop-place-preserved : goal.loop-place-preserved
loop-place-preserved c =
    one_bound c.args.spans.now c.loop-place.bounds c.loop-place.place c.joined-all.result (omega (arith, c.loop-place-test.true, c.loop-place.auto.bounds)) c.loop-place.invariant c.joined-all.ensures
