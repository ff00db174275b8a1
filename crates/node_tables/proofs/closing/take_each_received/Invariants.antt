use Rattle.std.proofs.Common.{◌≡◌, ◌≤◌, not}
use Rattle.std.specs.Prelude.{slice_get}
use Rattle.std.specs.List.{filter}
use Rattle.node_tables.specs.Places.{AscendBySpelling}
use Rattle.node_tables.specs.within.Sendings.{is_received}
use Rattle.node_tables.proofs.closing.take_each_received.Given as goal

abbrev pub invariant-loop-place : goal.invariant-loop-place
invariant-loop-place g l =
    (l.places.items ≡ filter (λ i. not (is_received l.node l.kept.item.fields l.kept.findings l.place (slice_get l.items i))) l.fn.places.items)
    × AscendBySpelling l.items l.places.items × (l.fn.places.room ≤ l.places.room)
