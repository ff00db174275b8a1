use Rattle.std.proofs.Common.{◌≡◌, take}
use Rattle.std.specs.List.{flat_map}
use Rattle.answers.specs.Showing.{prints_at}
use Rattle.answers.proofs.keys.prints_of.Given as goal

abbrev pub invariant-loop-node : goal.invariant-loop-node
invariant-loop-node l = l.prints.items ≡ flat_map (prints_at l.directory) (take l.node-index l.node-items)
