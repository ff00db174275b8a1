use Rattle.witness_core.proofs.OneStop.{stops_are_one}
use Rattle.witness_core.proofs.laws.stops_are_one.Goals as goal

pub returns : goal.returns
returns g c = stops_are_one g.row.P.Denot g.row.S.Denot c.joins_are_least_upper_bounds.ensures c.indications_are_one.ensures
