use Rattle.std.proofs.Common.{length}
use Rattle.node_journals.proofs.keys.+seed_of.Given as goal

abbrev pub decreases-seed_of : goal.decreases-seed_of
decreases-seed_of l = length l.secrets.now
