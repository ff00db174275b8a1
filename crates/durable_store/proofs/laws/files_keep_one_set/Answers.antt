use Rattle.durable_store.proofs.OneSet.{files}
use Rattle.durable_store.proofs.laws.files_keep_one_set.Goals as goal

pub returns : goal.returns
returns c = files c.items_have_one_text.ensures
