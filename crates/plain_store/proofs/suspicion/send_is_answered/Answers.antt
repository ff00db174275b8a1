use Rattle.std.proofs.Common.{sym, ◌∙◌}
use Rattle.kept_evidence.proofs.Answered.{acknowledged, send_answered}
use Rattle.plain_store.proofs.suspicion.send_is_answered.Goals as goal

pub returns-then-not-is_empty : goal.returns-then-not-is_empty
returns-then-not-is_empty g c =
    sym (acknowledged c.args.message.now c.args.kept.now c.group_of.result.now c.group_of.ensures.members (sym c.is_empty.ensures ∙ c.if-not-is_empty.true))

pub returns : goal.returns
returns g c =
    c.one_answers_send.ensures
    ∙ send_answered c.args.message.now c.args.kept.now c.group_of.result.now c.group_of.ensures.members (sym c.is_empty.ensures ∙ c.if-not-is_empty.false) c.group_of-2.result.now c.group_of-2.ensures.members
