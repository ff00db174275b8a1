use Rattle.witness_core.proofs.ValidItems.{runs_are_sound}
use Rattle.witness_core.proofs.laws.runs_are_sound.Goals as goal

pub returns : goal.returns
returns g c = runs_are_sound g.P.Program.means c.honest_nodes_are_not_exposed.ensures
