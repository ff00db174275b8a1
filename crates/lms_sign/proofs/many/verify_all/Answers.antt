use Rattle.std.proofs.Common.{◌-◌, ◌∙◌, ap, arith, drop, length, length-drop, take}
use Rattle.std.proofs.lemmas.List.{take_rest}
use Rattle.lms_sign.proofs.SideBySide.{answers_more}
use Rattle.lms_sign.proofs.many.verify_all.Goals as goal

pub loop-at-preserved : goal.loop-at-preserved
loop-at-preserved c =
    let signed = c.args.signed.now in
    let at = c.loop-at.at in
    let rest = take_rest signed at in
    let next = c.in_ok-at.ensures in (
      omega (arith, next.1, ap length rest, length-drop at signed),
      next.2 ∙ answers_more signed (take (length signed - at) (drop at signed)) c.loop-at.answers.items at c.in_ok-at.field-0 rest c.loop-at.invariant.1,
    )
