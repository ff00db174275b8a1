use Rattle.std.proofs.Common.{◌≡◌}
use Rattle.replay_tests.specs.Crowd.{crowd}
use Rattle.replay_tests.proofs.replay.crowds.forty_outputs.Given as goal

abbrev pub invariant-loop-node : goal.invariant-loop-node
invariant-loop-node l = l.outputs.items ≡ crowd l.node
