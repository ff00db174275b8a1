use Rattle.riscv.proofs.Cores.{run-left}
use Rattle.riscv.proofs.laws.fuel_is_used.Goals as goal

pub returns : goal.returns
returns c = run-left
