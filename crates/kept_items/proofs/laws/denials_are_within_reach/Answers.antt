use Rattle.kept_items.proofs.Reached.{denials_are_within_reach}
use Rattle.kept_items.proofs.laws.denials_are_within_reach.Goals as goal

pub returns : goal.returns
returns c = denials_are_within_reach
