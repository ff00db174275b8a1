use Rattle.std.proofs.Common.{arith}
use Rattle.node_tables.proofs.Closed.{all_hashed, all_taken, more_taken, none_taken}
use Rattle.node_tables.proofs.auditing.take_each.Goals as goal

pub loop-position-init : goal.loop-position-init
loop-position-init g c = record {
  places = none_taken c.args.items.now c.args.answer c.args.places.now.items c.requires.spelled;
  closed = record { hashed = c.requires.hashed; done = λ k x lt at. absurd (omega (arith, lt)) };
  room = omega arith;
}

pub take_at-requires-clause-spelled : goal.take_at-requires-clause-spelled
take_at-requires-clause-spelled g c = c.loop-position.invariant.places.spelled

pub take_at-requires-clause-closed : goal.take_at-requires-clause-closed
take_at-requires-clause-closed g c = c.loop-position.invariant.closed

pub loop-position-preserved : goal.loop-position-preserved
loop-position-preserved g c =
    let before = c.loop-position.invariant in
    record {
      places = more_taken c.args.items.now c.args.answer c.args.places.now.items c.loop-position.places.items c.take_at.new.places.items before.places c.take_at.ensures.places;
      closed = c.take_at.ensures.closed c.if-not-take_at.false;
      room = omega (arith, before.room, c.take_at.ensures.room);
    }

pub returns-then-not-take_at-clause-places : goal.returns-then-not-take_at-clause-places
returns-then-not-take_at-clause-places g c = more_taken c.args.items.now c.args.answer c.args.places.now.items c.loop-position.places.items c.take_at.new.places.items c.loop-position.invariant.places c.take_at.ensures.places

pub returns-then-not-take_at-clause-room : goal.returns-then-not-take_at-clause-room
returns-then-not-take_at-clause-room g c = omega (arith, c.loop-position.invariant.room, c.take_at.ensures.room)

pub returns-clause-items : goal.returns-clause-items
returns-clause-items g c = λ told.
    all_taken c.args.items.now c.args.node c.args.answer c.loop-position.position c.loop-position.places.items c.loop-position.hashes c.requires.segment c.answers_are_inherited.ensures c.loop-position.invariant.closed
    (λ k x at. let lt = c.count_entries-position-end.ensures k x at in omega (arith, lt, c.loop-position-test.false)) c.args.places.now.items c.loop-position.invariant.places

pub returns-clause-hashed : goal.returns-clause-hashed
returns-clause-hashed g c = λ told.
    all_hashed c.args.items.now c.args.node c.args.answer c.loop-position.position c.loop-position.places.items c.loop-position.hashes c.requires.segment c.answers_are_inherited.ensures c.loop-position.invariant.closed
    (λ k x at. let lt = c.count_entries-position-end.ensures k x at in omega (arith, lt, c.loop-position-test.false))
