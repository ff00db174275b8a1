use Rattle.std.proofs.Common.{take}
use Rattle.node_tables.specs.Rooms.{AreAllReleased}
use Rattle.node_tables.specs.Steps.{AscendByNode, EachBecomes}
use Rattle.indexed_store.proofs.merging.release_each.Given as goal

abbrev pub invariant-loop-item : goal.invariant-loop-item
invariant-loop-item g l = AscendByNode l.tables × EachBecomes (AreAllReleased (take l.item-index l.items)) l.fn.tables l.tables
