use Rattle.std.proofs.Common.{◌+◌, arith, append-nil, length, refl, sym, ◌∙◌}
use Rattle.tiered_vec.proofs.Carried.{carries_none, carries_on, ends, ends_filled, in_range, room_at, room_set, size_at}
use Rattle.tiered_vec.specs.within.Tiering.{items_of}
use Rattle.tiered_vec.proofs.putting.put_in.Goals as goal

pub loop-last-init : goal.loop-last-init
loop-last-init g c = carries_none c.args.size c.args.tiers.now c.args.place c.args.x c.requires.some c.requires.inside c.requires.filled

pub put-requires-clause-inside : goal.put-requires-clause-inside
put-requires-clause-inside g c =
    let s = c.loop-last.invariant in
    let n = length (items_of c.args.tiers.now) in
    let inside = s.inside in
    let below = s.below in
    let lt = in_range c.args.size c.loop-last.tiers n c.loop-last.tier (s.room (n + 1) c.requires.room) (omega arith) in
    let size = size_at c.args.size c.loop-last.tiers n c.loop-last.tier c.index-tiers-tier.result s.filled lt in
    omega arith

pub put-requires-clause-most : goal.put-requires-clause-most
put-requires-clause-most g c =
    let s = c.loop-last.invariant in
    let n = length (items_of c.args.tiers.now) in
    let inside = s.inside in
    let lt = in_range c.args.size c.loop-last.tiers n c.loop-last.tier (s.room (n + 1) c.requires.room) (omega arith) in
    let size = size_at c.args.size c.loop-last.tiers n c.loop-last.tier c.index-tiers-tier.result s.filled lt in
    omega arith

pub put-requires-clause-room : goal.put-requires-clause-room
put-requires-clause-room g c = λ less.
    let s = c.loop-last.invariant in
    let n = length (items_of c.args.tiers.now) in
    let inside = s.inside in
    let roomy = s.room (n + 1) c.requires.room in
    let lt = in_range c.args.size c.loop-last.tiers n c.loop-last.tier roomy (omega arith) in
    let size = size_at c.args.size c.loop-last.tiers n c.loop-last.tier c.index-tiers-tier.result s.filled lt in
    let room = room_at c.args.size c.loop-last.tiers (n + 1) c.loop-last.tier c.index-tiers-tier.result roomy lt in
    omega arith

pub loop-last-preserved : goal.loop-last-preserved
loop-last-preserved g c =
    let s = c.loop-last.invariant in
    let n = length (items_of c.args.tiers.now) in
    let inside = s.inside in
    let lt = in_range c.args.size c.loop-last.tiers n c.loop-last.tier (s.room (n + 1) c.requires.room) (omega arith) in
    carries_on c.args.size c.args.tiers.now c.loop-last.tiers c.args.place c.loop-last.tier c.loop-last.at c.args.x c.loop-last.carried c.in-Some.last c.index-tiers-tier.result c.put.new.tier s lt c.in-Some.ensures.items c.in-Some.ensures.len (c.in-Some.ensures.full.0 refl) c.in-Some.ensures.capacity

pub returns-clause-items : goal.returns-clause-items
returns-clause-items g c =
    let s = c.loop-last.invariant in
    let n = length (items_of c.args.tiers.now) in
    let inside = s.inside in
    let lt = in_range c.args.size c.loop-last.tiers n c.loop-last.tier (s.room (n + 1) c.requires.room) (omega arith) in
    ends c.args.size c.args.tiers.now c.loop-last.tiers c.args.place c.loop-last.tier c.loop-last.at c.args.x c.loop-last.carried c.index-tiers-tier.result c.put.new.tier s lt (sym (append-nil _) ∙ c.in_default.ensures.items)

pub returns-clause-filled : goal.returns-clause-filled
returns-clause-filled g c =
    let s = c.loop-last.invariant in
    let n = length (items_of c.args.tiers.now) in
    let inside = s.inside in
    let lt = in_range c.args.size c.loop-last.tiers n c.loop-last.tier (s.room (n + 1) c.requires.room) (omega arith) in
    ends_filled c.args.size c.args.tiers.now c.loop-last.tiers c.args.place c.loop-last.tier c.loop-last.at c.args.x c.loop-last.carried c.index-tiers-tier.result c.put.new.tier s lt c.in_default.ensures.len (λ e. let bad = c.in_default.ensures.full.1 e in cc)

pub returns-clause-room : goal.returns-clause-room
returns-clause-room g c = λ m h.
    let s = c.loop-last.invariant in
    let n = length (items_of c.args.tiers.now) in
    let inside = s.inside in
    let lt = in_range c.args.size c.loop-last.tiers n c.loop-last.tier (s.room (n + 1) c.requires.room) (omega arith) in
    room_set c.args.size c.loop-last.tiers m c.loop-last.tier c.index-tiers-tier.result c.put.new.tier (s.room m h) lt c.in_default.ensures.capacity
