use Rattle.operating.proofs.Rows.{standings}
use Rattle.operating.proofs.standings.standings_of.Goals as goal

pub returns : goal.returns
returns g c = standings g.P.Program.means c.args.store.now c.in_ok-standings.standings c.is_ordered.ensures c.in_ok-standings.ensures.listed c.in_ok-standings.ensures.right
