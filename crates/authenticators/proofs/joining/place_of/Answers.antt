use Rattle.authenticators.proofs.StatementJoins.{place_from, there_from}
use Rattle.authenticators.proofs.joining.place_of.Goals as goal

pub returns-clause-there : goal.returns-clause-there
returns-clause-there c = there_from c.args.held.now c.args.statement.now c.binary_search.result c.binary_search.ensures.bound c.binary_search.ensures.position

pub returns-clause-place : goal.returns-clause-place
returns-clause-place c = place_from c.args.held.now c.args.statement.now c.binary_search.result c.requires c.binary_search.ensures.bound c.binary_search.ensures.position
