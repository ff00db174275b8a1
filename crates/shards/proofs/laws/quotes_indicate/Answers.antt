use Rattle.shards.proofs.Quotes.{indicate}
use Rattle.shards.proofs.laws.quotes_indicate.Goals as goal

pub returns : goal.returns
returns g c = indicate c.quotes_are_as_expected.ensures c.extracts_indicate.ensures
