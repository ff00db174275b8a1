use Rattle.scenarios.proofs.ReadScripts.{found}
use Rattle.scenarios.proofs.WrittenScripts.{only}
use Rattle.scenarios.proofs.laws.scenarios_are_read.Goals as goal

pub returns : goal.returns
returns c = record { found = found; only = only }
