use Rattle.scenario_run.proofs.Numbered.{both_fresh}
use Rattle.scenario_run.proofs.opening.open.Goals as goal

pub returns-in-Ok-open-clause-numbered : goal.returns-in-Ok-open-clause-numbered
returns-in-Ok-open-clause-numbered g c = both_fresh _ _ _ c.in-Ok-open.ensures.passes c.both.ensures
