use Rattle.durable_store.proofs.LeftJournals.{opened}
use Rattle.durable_store.proofs.laws.left_journals_are_opened.Goals as goal

pub returns : goal.returns
returns c = opened
