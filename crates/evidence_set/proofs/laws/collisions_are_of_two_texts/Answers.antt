use Rattle.evidence_set.proofs.CollisionCases.{collisions}
use Rattle.evidence_set.proofs.laws.collisions_are_of_two_texts.Goals as goal

pub returns : goal.returns
returns c = collisions
