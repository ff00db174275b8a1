use Rattle.std.proofs.Common.{◌<◌}
use Rattle.lms_sign.proofs.stretches.first_to_leave.Given as goal

abbrev pub invariant-loop-l : goal.invariant-loop-l
invariant-loop-l l = l.first < 8
