use Rattle.operating.proofs.Extracts.{are_told}
use Rattle.operating.proofs.laws.extracts_are_told.Goals as goal

pub returns : goal.returns
returns g c = are_told c.indications_are_one.ensures c.extracts_indicate.ensures c.known_as_expected.ensures c.quotes_are_as_expected.ensures
