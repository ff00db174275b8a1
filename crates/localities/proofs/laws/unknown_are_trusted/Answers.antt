use Rattle.localities.proofs.Knowing.{unknown_trusted}
use Rattle.localities.proofs.laws.unknown_are_trusted.Goals as goal

pub returns : goal.returns
returns g c = unknown_trusted
