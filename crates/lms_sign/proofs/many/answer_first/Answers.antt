use Rattle.std.proofs.Common.{◌≡◌, ◌++◌, ◌∙◌, Bool, List, ap, arith, length, rules}
use Rattle.lms_sign.specs.SignedMessages.{is_signed}
use Rattle.lms_sign.proofs.SideBySide.{answers_are, is_group, no_signed}
use Rattle.lms_sign.proofs.many.answer_first.Goals as goal

pub verify_eight-eight-requires : goal.verify_eight-eight-requires
verify_eight-eight-requires c =
    is_group c.args.signed.now c.group.result c.alike-count.result (omega arith) c.alike-count.ensures.within c.alike-count.ensures.like c.group.ensures.own c.group.ensures.others

pub returns-in_ok-extend_from_slice-in-Some : goal.returns-in_ok-extend_from_slice-in-Some
returns-in_ok-extend_from_slice-in-Some c =
    let count = c.alike-count.result in
    let eight = c.verify_eight-eight.result in
    let long : length eight ≡ 8 = search rules in
    let most = c.alike-count.ensures.eight in
    let answers = answers_are count eight c.args.signed.now (omega arith) c.alike-count.ensures.within
    (λ j lt. c.verify_eight-eight.ensures j no_signed (omega arith) ∙ ap is_signed (c.group.ensures.own j no_signed (omega arith) lt)) in
    (omega arith, c.alike-count.ensures.within, c.in_ok-extend_from_slice-in-Some.ensures.items ∙ ap (λ (t : List Bool). c.args.answers.now.items ++ t) answers)
