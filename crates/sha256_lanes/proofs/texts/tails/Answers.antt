use Rattle.sha256_lanes.proofs.LaneLemmas.{below_eight}
use Rattle.sha256_lanes.proofs.texts.tails.Goals as goal

pub returns-clause-tails : goal.returns-clause-tails
returns-clause-tails g c = below_eight _ c.front_tail.ensures.tail c.front_tail-2.ensures.tail c.front_tail-3.ensures.tail c.front_tail-4.ensures.tail c.front_tail-5.ensures.tail c.front_tail-6.ensures.tail c.front_tail-7.ensures.tail c.front_tail-8.ensures.tail

pub returns-clause-len : goal.returns-clause-len
returns-clause-len g c = below_eight _ c.front_tail.ensures.len c.front_tail-2.ensures.len c.front_tail-3.ensures.len c.front_tail-4.ensures.len c.front_tail-5.ensures.len c.front_tail-6.ensures.len c.front_tail-7.ensures.len c.front_tail-8.ensures.len
