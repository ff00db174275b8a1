use Rattle.riscv.proofs.Cores.{run-zero}
use Rattle.riscv.proofs.laws.register_zero_stays.Goals as goal

pub returns : goal.returns
returns c = run-zero
