use Rattle.authenticators.proofs.ListedOnce.{listed_once}
use Rattle.authenticators.proofs.laws.directories_list_each_once.Goals as goal

pub returns : goal.returns
returns c = listed_once
