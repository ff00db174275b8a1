use Rattle.std.proofs.Common.{◌-◌, length, subst, sym}
use Rattle.tiered_vec.proofs.Pulled.{place_in, takes_all, takes_first, takes_next}
use Rattle.tiered_vec.specs.within.Tiering.{AreFilled, HaveRoom, items_of}
use Rattle.tiered_vec.proofs.removing.take_out.Goals as goal

pub take-requires : goal.take-requires
take-requires g c = place_in c.args.size c.args.tiers.now c.args.place c.requires.some c.requires.inside c.requires.filled c.index-tiers-tier.result

pub loop-tier-init : goal.loop-tier-init
loop-tier-init g c = takes_first c.args.size c.args.tiers.now c.args.place c.requires.some c.requires.inside c.requires.filled c.index-tiers-tier.result c.take.new.tier c.take.ensures.items c.take.ensures.len c.take.ensures.capacity

pub loop-tier-preserved : goal.loop-tier-preserved
loop-tier-preserved g c = takes_next c.args.size c.args.tiers.now c.args.place c.requires.some c.requires.inside c.requires.filled c.loop-tier.tiers c.pull.new.tiers c.loop-tier.tier c.loop-tier.invariant c.pull.ensures.items c.pull.ensures.capacities c.pull.auto.tiers (c.pull.ensures.moved c.loop-tier-test.true)

pub returns-clause-filled : goal.returns-clause-filled
returns-clause-filled g c =
    let same = c.pull.ensures.same c.loop-tier-test.false in
    let s = c.loop-tier.invariant in
    subst (λ ls. AreFilled c.args.size ls (length (items_of c.args.tiers.now) - 1)) (sym same) (takes_all c.args.size c.args.tiers.now c.args.place c.requires.some c.requires.inside c.requires.filled c.loop-tier.tiers c.loop-tier.tier s (c.pull.ensures.last c.loop-tier-test.false))

pub returns-clause-room : goal.returns-clause-room
returns-clause-room g c = λ n h. subst (λ cs. HaveRoom c.args.size cs n) (sym c.pull.ensures.capacities) (c.loop-tier.invariant.room n h)
