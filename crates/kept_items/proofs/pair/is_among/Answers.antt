use Rattle.std.proofs.Common.{◌∙◌}
use Rattle.kept_items.proofs.PairLists.{searched}
use Rattle.kept_items.proofs.pair.is_among.Goals as goal

pub returns : goal.returns
returns c = c.is_ok.ensures.value ∙ searched c.args.pairs.now c.args.seq c.args.hash c.binary_search.result c.requires c.binary_search.ensures.bound c.binary_search.ensures.ok c.binary_search.ensures.position
