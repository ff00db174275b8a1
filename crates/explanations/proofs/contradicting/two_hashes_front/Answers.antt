use Rattle.explanations.proofs.Leading.{both}
use Rattle.explanations.proofs.contradicting.two_hashes_front.Goals as goal

pub returns : goal.returns
returns c = both _ _ _ _ _ c.in_ok-text.ensures c.in_ok-front.ensures c.in_ok-rest.ensures
