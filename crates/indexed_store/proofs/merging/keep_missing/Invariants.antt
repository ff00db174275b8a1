use Rattle.std.specs.Vec.Iter.{into_iter_items}
use Rattle.indexed_store.proofs.Gathered.{Gathers}
use Rattle.indexed_store.proofs.merging.keep_missing.Given as goal

abbrev pub invariant-loop-item : goal.invariant-loop-item
invariant-loop-item g l = Gathers l.directory g.P.Program.means l.index.items.items l.fn.checked.items l.kept.items (into_iter_items l.item-iterator)
