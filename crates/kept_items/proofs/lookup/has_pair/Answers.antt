use Rattle.std.proofs.Common.{◌∙◌, sym}
use Rattle.kept_entries.specs.Shared.{entries_of}
use Rattle.proofs.proofs.Contradicting.{rising-decides}
use Rattle.kept_items.proofs.PairLists.{entries_by_pairs}
use Rattle.kept_items.proofs.Pairs.{among}
use Rattle.kept_items.proofs.lookup.has_pair.Goals as goal

pub finds_pair-requires-clause-rising : goal.finds_pair-requires-clause-rising
finds_pair-requires-clause-rising c = (rising-decides (entries_of c.args.handles.now)).0 (sym c.requires.rising ∙ c.if-rises.true)

pub is_among-requires : goal.is_among-requires
is_among-requires c = (c.requires.paired c.if-rises.false).ascending

pub returns-else-rises : goal.returns-else-rises
returns-else-rises c =
    c.is_among.ensures
    ∙ entries_by_pairs c.args.handles.now c.args.pairs.now c.args.seq c.args.hash (c.requires.paired c.if-rises.false)
    ∙ among c.args.prev c.args.handles.now c.args.seq c.args.hash c.requires.hashed
