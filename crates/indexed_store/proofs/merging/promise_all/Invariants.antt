use Rattle.std.proofs.Common.{take}
use Rattle.node_tables.specs.Rooms.{AreReady}
use Rattle.node_tables.specs.Steps.{AscendByNode, EachBecomes}
use Rattle.indexed_store.proofs.merging.promise_all.Given as goal

abbrev pub invariant-loop-n : goal.invariant-loop-n
invariant-loop-n g l = AscendByNode l.tables × EachBecomes (AreReady (take l.n l.more)) l.fn.tables l.tables
