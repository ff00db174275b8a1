use Rattle.std.proofs.Common.{◌≡◌, ◌++◌}
use Rattle.std.specs.List.{flat_map}
use Rattle.answers.specs.Lines.{node_line}
use Rattle.answers.proofs.shown_lines.put_nodes.Given as goal

abbrev pub invariant-loop-node : goal.invariant-loop-node
invariant-loop-node l = l.text.items ++ flat_map node_line l.node-iterator ≡ l.initial.text.items ++ flat_map node_line l.nodes.entries
