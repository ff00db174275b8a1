use Rattle.std.proofs.Common.{ap}
use Rattle.shared_stores.specs.Histories.{Notes}
use Rattle.scenario_run.proofs.taking.take.Goals as goal

pub returns-in-Ok-clause-number : goal.returns-in-Ok-clause-number
returns-in-Ok-clause-number g c = ap (λ (p : Notes). p.number) c.in-Ok.ensures.noted

pub returns-in-Err-clause-number : goal.returns-in-Err-clause-number
returns-in-Err-clause-number g c = ap (λ (p : Notes). p.number) c.in-Err.ensures.refused
