use Rattle.std.proofs.Common.{◌≡◌, map, take}
use Rattle.std.specs.Prelude.{slice_get}
use Rattle.std.specs.List.{flat_map}
use Rattle.node_tables.specs.Places.{named_item}
use Rattle.indexed_store.proofs.listing.in_order.Given as goal

abbrev pub invariant-loop-n : goal.invariant-loop-n
invariant-loop-n g l = map (λ k. k.kept.now.item) l.found.items ≡ flat_map (λ i. named_item (slice_get l.index.items.items i)) (take l.n l.index.order.items)
