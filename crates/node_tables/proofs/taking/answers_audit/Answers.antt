use Rattle.std.proofs.Common.{sym}
use Rattle.node_tables.proofs.Receipts.{no_audit}
use Rattle.node_tables.proofs.taking.answers_audit.Goals as goal

pub returns-in_default : goal.returns-in_default
returns-in_default g c = sym (no_audit c.args.challenge.now.item.fields c.args.answer.now.item.fields c.in_default.ensures.none)
