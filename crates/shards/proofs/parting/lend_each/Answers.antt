use Rattle.std.proofs.Common.{map}
use Rattle.shards.specs.within.Deals.{goes_to}
use Rattle.shards.proofs.Stepping.{one_more_kept}
use Rattle.shards.proofs.parting.lend_each.Goals as goal

pub loop-one-preserved : goal.loop-one-preserved
loop-one-preserved c =
    one_more_kept (λ d. (d.item.now, d.parts.items)) (goes_to c.args.k) c.args.dealt.now c.loop-one.one-index c.one-item.result (map (λ x. x.item.now) c.loop-one.lent.items) (map (λ x. x.item.now) c.lend.new.lent.items)
    c.loop-one-test.true c.one-item.is c.loop-one.invariant c.in_ok-lend.ensures
