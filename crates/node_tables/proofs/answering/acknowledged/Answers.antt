use Rattle.std.proofs.Common.{sym}
use Rattle.node_tables.proofs.Sendings.{no_sending}
use Rattle.node_tables.proofs.answering.acknowledged.Goals as goal

pub returns-in_default : goal.returns-in_default
returns-in_default g c = sym (no_sending c.args.kept.now.item.fields c.in_default.ensures.none)
