use Rattle.operating.proofs.Rows.{reports}
use Rattle.operating.proofs.laws.standings_are_reports.Goals as goal

pub returns : goal.returns
returns g c = reports c.known_as_expected.ensures
