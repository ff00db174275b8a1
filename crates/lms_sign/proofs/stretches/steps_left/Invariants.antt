use Rattle.std.proofs.Common.{◌*◌, ◌≤◌}
use Rattle.lms_sign.proofs.stretches.steps_left.Given as goal

abbrev pub invariant-loop-i : goal.invariant-loop-i
invariant-loop-i l = l.steps ≤ 255 * l.i
