use Rattle.node_journals.proofs.Crashes.{journals_back}
use Rattle.node_journals.proofs.laws.journals_rebuild.Goals as goal

pub returns : goal.returns
returns g c = journals_back c.beginnings_read_back.ensures c.records_read_back.ensures c.runs_only_add.ensures
