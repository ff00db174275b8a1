use Rattle.riscv.proofs.WordLemmas.{read-back}
use Rattle.riscv.proofs.laws.words_read_back.Goals as goal

pub returns : goal.returns
returns c = read-back
