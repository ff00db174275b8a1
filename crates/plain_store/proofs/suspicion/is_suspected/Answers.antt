use Rattle.std.proofs.Common.{sym, ◌∙◌}
use Rattle.kept_evidence.proofs.Answered.{open_audit, open_send}
use Rattle.plain_store.proofs.suspicion.is_suspected.Goals as goal

pub returns-then-one_is_unanswered : goal.returns-then-one_is_unanswered
returns-then-one_is_unanswered g c =
    sym (open_audit c.args.node c.args.kept.now c.group_of.result.now c.group_of.ensures.members (sym c.one_is_unanswered.ensures ∙ c.if-one_is_unanswered.true))

pub returns : goal.returns
returns g c =
    c.one_is_unanswered-2.ensures
    ∙ open_send c.args.node c.args.kept.now c.group_of.result.now c.group_of.ensures.members c.group_of-2.result.now c.group_of-2.ensures.members (sym c.one_is_unanswered.ensures ∙ c.if-one_is_unanswered.false)
