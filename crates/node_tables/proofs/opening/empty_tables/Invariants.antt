use Rattle.std.proofs.Common.{[]}
use Rattle.std.specs.List.{AllWithin}
use Rattle.node_tables.specs.Indexed.{HasNode, IsTable}
use Rattle.node_tables.specs.Rooms.{Owes}
use Rattle.node_tables.specs.Steps.{AllTables, AscendByNode}
use Rattle.node_tables.proofs.opening.empty_tables.Given as goal

abbrev pub invariant-loop-node : goal.invariant-loop-node
invariant-loop-node l = AscendByNode l.tables.items × AllTables (IsTable []) l.tables.items × AllWithin (HasNode l.tables.items) l.node-items 0 l.node-index × AllTables (Owes []) l.tables.items
