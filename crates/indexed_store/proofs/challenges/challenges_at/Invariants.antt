use Rattle.std.proofs.Common.{◌≡◌, map, take}
use Rattle.std.specs.Prelude.{slice_get}
use Rattle.std.specs.List.{flat_map}
use Rattle.node_tables.specs.Places.{named_item}
use Rattle.indexed_store.proofs.challenges.challenges_at.Given as goal

abbrev pub invariant-loop-at : goal.invariant-loop-at
invariant-loop-at g l = map (λ i. i.now) l.found.items ≡ flat_map (λ i. named_item (slice_get l.items i)) (take l.at l.places.items)
