use Rattle.std.proofs.Common.{◌≤◌, ◌-◌}
use Rattle.node_tables.specs.within.Named.{AreNamingsOf, AreTaken}
use Rattle.node_tables.proofs.Closed.{Seen}
use Rattle.node_tables.proofs.taking.take_near.Given as goal

abbrev pub invariant-loop-at : goal.invariant-loop-at
invariant-loop-at g l = record {
  seen : Seen l.items l.answer l.fn.fronts l.own.items l.at l.end;
  places : AreTaken l.items l.answer l.fn.places.items l.places.items;
  own : AreNamingsOf l.places.items l.fn.own.items l.own.items;
  others : AreNamingsOf l.places.items l.fn.others.items l.others.items;
  room : l.fn.places.room ≤ l.places.room;
}

abbrev pub decreases-loop-at : goal.decreases-loop-at
decreases-loop-at g l = l.end - l.at
