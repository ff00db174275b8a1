use Rattle.std.proofs.Common.{◌<◌, ◌^◌, All, take}
use Rattle.sentences.proofs.writing.have_numbers.Given as goal

abbrev pub invariant-loop-node : goal.invariant-loop-node
invariant-loop-node l = All (λ n. n.node < 2 ^ 32) (take l.node-index l.nodes)
