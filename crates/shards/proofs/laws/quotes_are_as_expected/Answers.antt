use Rattle.shards.proofs.Quotes.{as_expected}
use Rattle.shards.proofs.laws.quotes_are_as_expected.Goals as goal

pub returns : goal.returns
returns c =
    as_expected c.parts_are_as_expected.ensures c.sets_are_as_expected.ensures c.joins_are_as_expected.ensures c.joins_are_least_upper_bounds.ensures c.held_statements_are_signed.ensures c.receipts_have_one_text.ensures c.keys_sign.ensures
