use Rattle.challenges.proofs.Owed.{plain_owed}
use Rattle.challenges.proofs.laws.plain_challenges_are_owed.Goals as goal

pub returns : goal.returns
returns g c = plain_owed c.sets_are_as_expected.ensures c.forgeries_are_unsigned.ensures _
