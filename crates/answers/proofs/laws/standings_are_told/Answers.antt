use Rattle.answers.proofs.Indications.{told}
use Rattle.answers.proofs.laws.standings_are_told.Goals as goal

pub returns : goal.returns
returns c = told
