use Rattle.std.proofs.Common.{◌≤◌}
use Rattle.node_tables.specs.within.Named.{AreLookedAt, AreStruck}
use Rattle.node_tables.proofs.taking.take_by_entries.Given as goal

abbrev pub invariant-loop-position : goal.invariant-loop-position
invariant-loop-position g l = record {
  struck : AreStruck l.items l.mark.item l.fn.places.items l.places.items l.fn.hashes l.hashes;
  looked : AreLookedAt l.items l.mark.item l.mark.front l.position l.hashes;
  room : l.fn.places.room ≤ l.places.room;
}
