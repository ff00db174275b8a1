use Rattle.kept_evidence.proofs.Ascending.{can_be_kept}
use Rattle.kept_evidence.proofs.findings.find_each.Goals as goal

pub returns-clause-kept : goal.returns-clause-kept
returns-clause-kept g c = can_be_kept c.args.directory.now g.P.Program.means c.args.items.now.items c.find_all.new.items.items c.in_ok-find_all.ensures.pieces c.requires.ascending c.in_ok-find_all.ensures.whole
