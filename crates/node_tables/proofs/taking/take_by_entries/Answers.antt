use Rattle.std.proofs.Common.{◌≡◌, subst, arith}
use Rattle.node_tables.specs.within.Named.{AreLookedAt}
use Rattle.node_tables.proofs.Closed.{looked_first, looked_next, more_struck}
use Rattle.node_tables.proofs.taking.take_by_entries.Goals as goal

pub loop-position-init : goal.loop-position-init
loop-position-init g c = record {
  struck = c.take_begun.ensures.struck;
  looked = looked_first c.args.items.now c.args.mark.item c.args.mark.front c.take_begun.new.hashes c.take_begun.ensures.done;
  room = c.take_begun.ensures.room;
}

pub take_beside-requires-clause-spelled : goal.take_beside-requires-clause-spelled
take_beside-requires-clause-spelled g c = c.loop-position.invariant.struck.places.spelled

pub take_beside-requires-clause-lasts : goal.take_beside-requires-clause-lasts
take_beside-requires-clause-lasts g c = c.loop-position.invariant.struck.lasts.order

pub take_beside-requires-clause-firsts : goal.take_beside-requires-clause-firsts
take_beside-requires-clause-firsts g c = c.loop-position.invariant.struck.firsts.order

pub loop-position-preserved : goal.loop-position-preserved
loop-position-preserved g c =
    let before = c.loop-position.invariant in
    record {
      struck = more_struck c.args.items.now c.args.mark.item c.args.places.now.items c.loop-position.places.items c.take_beside.new.places.items c.args.hashes.now c.loop-position.hashes c.take_beside.new.hashes before.struck c.take_beside.ensures.struck;
      looked = looked_next c.args.items.now c.args.mark.item c.args.mark.front c.loop-position.position c.loop-position.places.items c.take_beside.new.places.items c.loop-position.hashes c.take_beside.new.hashes c.take_beside.ensures.struck before.looked c.take_beside.ensures.done;
      room = omega (arith, before.room, c.take_beside.ensures.room);
    }

pub returns-clause-looked : goal.returns-clause-looked
returns-clause-looked g c =
    let all : c.loop-position.position ≡ c.args.entries = omega (arith, c.loop-position-test.false, c.loop-position.auto.position-end) in
    subst (λ r. AreLookedAt c.args.items.now c.args.mark.item c.args.mark.front r c.loop-position.hashes) all c.loop-position.invariant.looked
