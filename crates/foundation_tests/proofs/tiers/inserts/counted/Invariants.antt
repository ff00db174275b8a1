use Rattle.std.proofs.Common.{◌-◌, ◌≤◌}
use Rattle.foundation_tests.proofs.tiers.inserts.counted.Given as goal

abbrev pub invariant-loop-k : goal.invariant-loop-k
invariant-loop-k l = l.count - l.k ≤ l.list.room
