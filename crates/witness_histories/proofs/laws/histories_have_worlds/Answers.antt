use Rattle.witness_histories.proofs.Existing.{have_worlds}
use Rattle.witness_histories.proofs.laws.histories_have_worlds.Goals as goal

pub returns : goal.returns
returns g c = have_worlds _ c.sets_are_lists.ensures c.lists_are_judged.ensures
