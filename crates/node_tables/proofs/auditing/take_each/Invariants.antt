use Rattle.std.proofs.Common.{◌≤◌}
use Rattle.node_tables.specs.within.Named.{AreClosed, AreTaken}
use Rattle.node_tables.proofs.auditing.take_each.Given as goal

abbrev pub invariant-loop-position : goal.invariant-loop-position
invariant-loop-position g l = record {
  places : AreTaken l.items l.answer l.fn.places.items l.places.items;
  closed : AreClosed l.items l.node l.answer l.position l.places.items l.hashes;
  room : l.fn.places.room ≤ l.places.room;
}
