use Rattle.localities.specs.Concerning.{sender_in}
use Rattle.localities.specs.Shards.{in_turn}
use Rattle.shards.proofs.Stepping.{one_more}
use Rattle.shards.proofs.naming.add_senders.Goals as goal

pub loop-entry-preserved : goal.loop-entry-preserved
loop-entry-preserved c =
    one_more sender_in (in_turn c.args.shards) c.args.entries.now c.loop-entry.entry-index c.entry-item.result c.args.numbers.now.items c.loop-entry.numbers.items c.add_sender.new.numbers.items
    c.loop-entry-test.true c.entry-item.is c.loop-entry.invariant c.in_ok-add_sender.ensures
