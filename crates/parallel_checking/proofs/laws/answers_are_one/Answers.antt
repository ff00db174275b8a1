use Rattle.parallel_checking.proofs.Answering.{one_answer}
use Rattle.parallel_checking.proofs.laws.answers_are_one.Goals as goal

pub returns : goal.returns
returns g c = one_answer c.verdicts_are_one.ensures c.findings_are_one.ensures
