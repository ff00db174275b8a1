use Rattle.commands.proofs.AddedStores.{adds_store}
use Rattle.commands.proofs.laws.texts_are_added.Goals as goal

pub returns : goal.returns
returns c = record { adds = adds_store c.sets_have_one_text.ensures c.joins_are_as_expected.ensures c.sets_are_lists.ensures c.sets_count.ensures }
