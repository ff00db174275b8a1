use Rattle.std.proofs.Common.{◌≡◌, ◌+◌, ◌≤◌}
use Rattle.std.specs.List.{remove_range}
use Rattle.node_tables.proofs.sending.take_away.Given as goal

abbrev pub invariant-loop-gone : goal.invariant-loop-gone
invariant-loop-gone l = record {
  items : l.places.items ≡ remove_range l.fn.places.items l.near.start (l.near.start + l.gone);
  room : l.fn.places.room ≤ l.places.room;
}
