use Rattle.witness_core.proofs.ValidItems.{answers}
use Rattle.witness_core.proofs.laws.answers_are_of_valid_items.Goals as goal

pub returns : goal.returns
returns g c = answers g.P.Program.means
