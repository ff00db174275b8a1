use Rattle.std.proofs.Common.{arith}
use Rattle.tiered_vec.proofs.Pulled.{none_capacities, none_given, none_lengths, one_capacities, one_given, one_moved, room_there}
use Rattle.tiered_vec.proofs.removing.pull.Goals as goal

pub returns-in_default-clause-items : goal.returns-in_default-clause-items
returns-in_default-clause-items g c = none_given c.args.tiers.now c.args.tier c.index-tiers-tier.result c.index-tiers-tier.result c.pop_front.new.self c.pop_front.new.self (omega (arith, c.if-tier-tiers.false)) c.in_default.ensures.items

pub returns-in_default-clause-capacities : goal.returns-in_default-clause-capacities
returns-in_default-clause-capacities g c = none_capacities c.args.tiers.now c.args.tier c.index-tiers-tier.result c.index-tiers-tier.result c.pop_front.new.self c.pop_front.new.self (omega (arith, c.if-tier-tiers.false)) c.in_default.ensures.capacity

pub returns-in_default-clause-same : goal.returns-in_default-clause-same
returns-in_default-clause-same g c = λ told. none_lengths c.args.tiers.now c.args.tier c.index-tiers-tier.result c.index-tiers-tier.result c.pop_front.new.self c.pop_front.new.self (omega (arith, c.if-tier-tiers.false)) (omega (arith, c.in_default.ensures.cases))

pub returns-clause-items : goal.returns-clause-items
returns-clause-items g c = one_given c.args.tiers.now c.args.tier c.index-tiers-tier.result c.index-tiers-tier-2.result c.pop_front.new.self c.push_back_reserved.new.self (omega (arith, c.if-tier-tiers.false)) c.in-Some.first c.in-Some.ensures.items c.push_back_reserved.ensures.items

pub returns-clause-capacities : goal.returns-clause-capacities
returns-clause-capacities g c = one_capacities c.args.tiers.now c.args.tier c.index-tiers-tier.result c.index-tiers-tier-2.result c.pop_front.new.self c.push_back_reserved.new.self (omega (arith, c.if-tier-tiers.false)) c.in-Some.ensures.capacity c.push_back_reserved.ensures.capacity

pub returns-clause-moved : goal.returns-clause-moved
returns-clause-moved g c = λ told. one_moved c.args.tiers.now c.args.tier c.index-tiers-tier.result c.index-tiers-tier-2.result c.pop_front.new.self c.push_back_reserved.new.self (omega (arith, c.if-tier-tiers.false)) c.in-Some.ensures.cases c.push_back_reserved.ensures.len
