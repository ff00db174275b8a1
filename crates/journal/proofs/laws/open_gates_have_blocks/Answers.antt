use Rattle.journal.proofs.Damaged.{open_gates}
use Rattle.journal.proofs.laws.open_gates_have_blocks.Goals as goal

pub returns : goal.returns
returns c = open_gates
