use Rattle.journal.proofs.Damaged.{lost_bits}
use Rattle.journal.proofs.laws.lost_bits_are_seen.Goals as goal

pub returns : goal.returns
returns c = lost_bits
