use Rattle.riscv.proofs.Cores.{run-cut}
use Rattle.riscv.proofs.laws.runs_go_on.Goals as goal

pub returns : goal.returns
returns c = run-cut
