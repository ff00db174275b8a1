use Rattle.evidence_set.specs.Valid.{fields_of}
use Rattle.localities.specs.Shards.{in_turn}
use Rattle.shards.proofs.QuotedLists.{one_entry_more}
use Rattle.shards.proofs.extracting.add_quotes.Goals as goal

pub loop-entry-preserved : goal.loop-entry-preserved
loop-entry-preserved c =
    one_entry_more c.args.directory.now (in_turn c.args.shards) c.args.me c.args.entries.now c.loop-entry.entry-index c.entry-item.result (fields_of c.args.quotes.now.items) (fields_of c.loop-entry.quotes.items)
    (fields_of c.add_quote.new.quotes.items) c.loop-entry-test.true c.entry-item.is c.loop-entry.invariant c.in_ok-add_quote.ensures
