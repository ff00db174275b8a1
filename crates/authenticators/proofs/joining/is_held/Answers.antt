use Rattle.authenticators.proofs.StatementJoins.{held_told}
use Rattle.authenticators.proofs.joining.is_held.Goals as goal

pub returns : goal.returns
returns c = held_told c.args.held.now c.args.statement.now c.place_of.result c.is_ok.result c.is_ok.ensures.value c.place_of.ensures.there c.place_of.ensures.place
