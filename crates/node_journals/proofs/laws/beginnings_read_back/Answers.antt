use Rattle.node_journals.proofs.BeginningTexts.{beginnings_back}
use Rattle.node_journals.proofs.laws.beginnings_read_back.Goals as goal

pub returns : goal.returns
returns c = beginnings_back c.keys_have_one_text.ensures
