use Rattle.riscv.proofs.Cores.{run-registers, run-memory}
use Rattle.riscv.proofs.laws.sizes_stay.Goals as goal

pub returns : goal.returns
returns c = λ code fuel next x m. (run-registers code fuel next x m, run-memory code fuel next x m)
