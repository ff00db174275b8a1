use Rattle.parallel_checking.proofs.Placing.{again_answers}
use Rattle.parallel_checking.proofs.laws.again_are_answers.Goals as goal

pub returns : goal.returns
returns g c = again_answers
