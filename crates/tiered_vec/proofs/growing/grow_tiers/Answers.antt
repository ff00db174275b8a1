use Rattle.std.proofs.Common.{◌<◌, arith, length}
use Rattle.tiered_vec.proofs.Grown.{grows_none, grows_on, grows_same}
use Rattle.tiered_vec.proofs.growing.grow_tiers.Goals as goal

pub loop-tier-init : goal.loop-tier-init
loop-tier-init g c = grows_none c.args.size c.args.tiers.now c.args.first c.args.most c.requires.full

pub returns-in_err-grow-clause-items : goal.returns-in_err-grow-clause-items
returns-in_err-grow-clause-items g c =
    let lt : c.loop-tier.tier < length c.loop-tier.tiers = omega arith in
    (grows_same c.args.size c.args.tiers.now c.loop-tier.tiers c.loop-tier.tier c.args.most c.index-tiers-tier.result c.grow.new.tier c.loop-tier.invariant lt c.in_err-grow.ensures.items c.in_err-grow.ensures.len c.in_err-grow.ensures.capacity).items

pub returns-in_err-grow-clause-lengths : goal.returns-in_err-grow-clause-lengths
returns-in_err-grow-clause-lengths g c =
    let lt : c.loop-tier.tier < length c.loop-tier.tiers = omega arith in
    (grows_same c.args.size c.args.tiers.now c.loop-tier.tiers c.loop-tier.tier c.args.most c.index-tiers-tier.result c.grow.new.tier c.loop-tier.invariant lt c.in_err-grow.ensures.items c.in_err-grow.ensures.len c.in_err-grow.ensures.capacity).lengths

pub returns-in_err-grow-clause-room : goal.returns-in_err-grow-clause-room
returns-in_err-grow-clause-room g c =
    let lt : c.loop-tier.tier < length c.loop-tier.tiers = omega arith in
    (grows_same c.args.size c.args.tiers.now c.loop-tier.tiers c.loop-tier.tier c.args.most c.index-tiers-tier.result c.grow.new.tier c.loop-tier.invariant lt c.in_err-grow.ensures.items c.in_err-grow.ensures.len c.in_err-grow.ensures.capacity).room

pub loop-tier-preserved : goal.loop-tier-preserved
loop-tier-preserved g c =
    let lt : c.loop-tier.tier < length c.loop-tier.tiers = omega arith in
    let fits = c.ranges.most.fits in
    let target = c.min.ensures in
    let left = c.saturating_sub.ensures in
    let full = c.saturating_mul-full.ensures in
    let room = c.in_ok-grow.ensures.room in
    grows_on c.args.size c.args.tiers.now c.loop-tier.tiers c.loop-tier.tier c.args.most c.index-tiers-tier.result c.grow.new.tier c.loop-tier.invariant lt c.in_ok-grow.ensures.items c.in_ok-grow.ensures.len c.in_ok-grow.ensures.capacity (omega arith)
