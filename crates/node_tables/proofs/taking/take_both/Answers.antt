use Rattle.std.proofs.Common.{refl, arith}
use Rattle.node_tables.proofs.Closed.{fewer_answered, more_namings, more_taken}
use Rattle.node_tables.proofs.taking.take_both.Goals as goal

pub returns-clause-struck : goal.returns-clause-struck
returns-clause-struck g c = record {
  places = more_taken c.args.items.now c.args.answer c.args.places.now.items c.take_near.new.places.items c.take_near-2.new.places.items c.take_near.ensures.places c.take_near-2.ensures.places;
  holders = refl;
  lasts = more_namings c.take_near.new.places.items c.take_near-2.new.places.items c.args.hashes.now.lasts.items c.take_near.new.own.items c.take_near-2.new.others.items c.take_near-2.ensures.places.fewer c.take_near.ensures.own c.take_near-2.ensures.others;
  firsts = more_namings c.take_near.new.places.items c.take_near-2.new.places.items c.args.hashes.now.firsts.items c.take_near.new.others.items c.take_near-2.new.own.items c.take_near-2.ensures.places.fewer c.take_near.ensures.others c.take_near-2.ensures.own;
}

pub returns-clause-room : goal.returns-clause-room
returns-clause-room g c = omega (arith, c.take_near.ensures.room, c.take_near-2.ensures.room)

pub returns-clause-done : goal.returns-clause-done
returns-clause-done g c = (
  fewer_answered c.args.items.now c.args.answer c.args.fronts c.take_near.new.own.items c.take_near-2.new.others.items c.take_near-2.ensures.others.fewer c.take_near.ensures.done,
  c.take_near-2.ensures.done,
)
