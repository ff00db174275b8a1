use Rattle.std.proofs.Common.{sym, ◌∙◌}
use Rattle.node_tables.proofs.Sendings.{ack_takes, never_none}
use Rattle.node_tables.proofs.answering.close_acknowledged.Goals as goal

pub returns-in-Some-clause-items : goal.returns-in-Some-clause-items
returns-in-Some-clause-items g c =
    c.take_sending.ensures.items ∙ ack_takes c.args.items.now c.args.answer c.in-Some.sending (sym c.acknowledged_at.ensures ∙ c.in-Some.is) c.requires.here c.args.unanswered.now.items

pub returns-in_default-clause-items : goal.returns-in_default-clause-items
returns-in_default-clause-items g c = absurd (never_none c.args.items.now c.args.answer c.requires.here (sym c.acknowledged_at.ensures ∙ c.in_default.is))
