use Rattle.journal.proofs.Damaged.{left_read}
use Rattle.journal.proofs.laws.left_files_are_read.Goals as goal

pub returns : goal.returns
returns c = left_read
