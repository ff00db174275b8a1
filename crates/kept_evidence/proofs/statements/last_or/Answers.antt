use Rattle.kept_evidence.proofs.ToldStatements.{last_at}
use Rattle.kept_evidence.proofs.statements.last_or.Goals as goal

pub returns-in-len1-up : goal.returns-in-len1-up
returns-in-len1-up c = last_at c.args.prev c.args.hashes.now c.last-item.result c.in-len1-up.len_at_least c.last-item.is
