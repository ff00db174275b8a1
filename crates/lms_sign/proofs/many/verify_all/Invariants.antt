use Rattle.std.proofs.Common.{◌≡◌, ◌≤◌, ◌-◌, length, map, take}
use Rattle.lms_sign.specs.SignedMessages.{is_signed}
use Rattle.lms_sign.proofs.many.verify_all.Given as goal

abbrev pub invariant-loop-at : goal.invariant-loop-at
invariant-loop-at l = (l.at ≤ length l.signed) × (l.answers.items ≡ map is_signed (take l.at l.signed))

abbrev pub decreases-loop-at : goal.decreases-loop-at
decreases-loop-at l = length l.initial.signed - l.at
