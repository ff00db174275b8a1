use Rattle.std.proofs.Common.{◌≡◌, ◌∷◌, ap, length, rules}
use Rattle.std.specs.Vec.Iter.{into_iter_items}
use Rattle.tiered_vec.proofs.Widened.{fits, moves_all, moves_more, moves_none, moves_room, none_left}
use Rattle.tiered_vec.specs.within.Tiering.{items_of}
use Rattle.tiered_vec.proofs.widening.append_all.Goals as goal

pub loop-tier-init : goal.loop-tier-init
loop-tier-init g c = moves_none _ _ _ (ap items_of c.into_iter-tier-iterator.ensures.into_iter_gives.0) c.requires.room

pub append-requires : goal.append-requires
append-requires g c =
    let next : into_iter_items c.loop-tier.tier-iterator ≡ c.in-Some.tier ∷ into_iter_items c.next.new.self = search rules in
    record { room = fits _ _ _ _ c.in-Some.tier.items _ c.loop-tier.invariant (ap items_of next) }

pub loop-tier-preserved : goal.loop-tier-preserved
loop-tier-preserved g c =
    let next : into_iter_items c.loop-tier.tier-iterator ≡ c.in-Some.tier ∷ into_iter_items c.next.new.self = search rules in
    moves_more _ _ _ _ _ _ _ c.loop-tier.invariant (ap items_of next) c.append.ensures.items c.append.ensures.room

pub returns-clause-items : goal.returns-clause-items
returns-clause-items g c =
    let none : length (into_iter_items c.loop-tier.tier-iterator) ≡ 0 = search rules in
    moves_all _ _ _ _ c.loop-tier.invariant (ap items_of (none_left (into_iter_items c.loop-tier.tier-iterator) none))

pub returns-clause-room : goal.returns-clause-room
returns-clause-room g c =
    let none : length (into_iter_items c.loop-tier.tier-iterator) ≡ 0 = search rules in
    moves_room _ _ _ _ c.loop-tier.invariant (ap items_of (none_left (into_iter_items c.loop-tier.tier-iterator) none))
