use Rattle.evidence_set.specs.Valid.{fields_of}
use Rattle.localities.specs.Shards.{in_turn}
use Rattle.shards.proofs.QuotedLists.{one_item_more}
use Rattle.shards.proofs.extracting.quotes_of.Goals as goal

pub loop-item-preserved : goal.loop-item-preserved
loop-item-preserved c =
    one_item_more c.args.directory.now (in_turn c.args.shards) c.args.items.now c.loop-item.item-index c.item-item.result (fields_of c.loop-item.quotes.items) (fields_of c.add_item.new.quotes.items) c.loop-item-test.true c.item-item.is
    c.loop-item.invariant c.in_ok-add_item.ensures
