use Rattle.std.proofs.Common.{◌≡◌, ◌++◌}
use Rattle.std.specs.List.{flat_map}
use Rattle.answers.specs.Lines.{standing_line}
use Rattle.answers.proofs.standings.put_lines.Given as goal

abbrev pub invariant-loop-node : goal.invariant-loop-node
invariant-loop-node l = l.text.items ++ flat_map standing_line l.node-iterator ≡ l.initial.text.items ++ flat_map standing_line l.standings.entries
