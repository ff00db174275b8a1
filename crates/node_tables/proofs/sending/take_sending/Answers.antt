use Rattle.std.proofs.Common.{◌∙◌}
use Rattle.node_tables.proofs.sending.take_sending.Goals as goal

pub returns-clause-items : goal.returns-clause-items
returns-clause-items g c = c.take_away.ensures.items ∙ c.places_of-near.ensures.others
