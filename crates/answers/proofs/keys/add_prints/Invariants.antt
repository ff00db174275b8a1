use Rattle.std.proofs.Common.{◌≡◌, ◌++◌, map, take}
use Rattle.answers.specs.Showing.{print_of}
use Rattle.answers.proofs.keys.add_prints.Given as goal

abbrev pub invariant-loop-key : goal.invariant-loop-key
invariant-loop-key l = l.prints.items ≡ l.initial.prints.items ++ map (print_of l.node) (take l.key-index l.keys)
