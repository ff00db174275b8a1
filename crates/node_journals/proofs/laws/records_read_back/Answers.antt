use Rattle.node_journals.proofs.RecordTexts.{records_back}
use Rattle.node_journals.proofs.laws.records_read_back.Goals as goal

pub returns : goal.returns
returns c = records_back c.keys_have_one_text.ensures c.framed_items_read_back.ensures
