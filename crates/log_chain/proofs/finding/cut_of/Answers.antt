use Rattle.log_chain.proofs.Finds.{cut}
use Rattle.log_chain.proofs.finding.cut_of.Goals as goal

pub returns-clause-cut : goal.returns-clause-cut
returns-clause-cut c = cut _ _ _ _ _ c.requires c.in_ok-start.ensures.stands c.in_ok-last.ensures.stands c.if-from-to.false
