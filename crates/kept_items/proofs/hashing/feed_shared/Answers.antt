use Rattle.kept_items.proofs.Fed.{entry_fed}
use Rattle.kept_items.proofs.hashing.feed_shared.Goals as goal

pub returns : goal.returns
returns c = entry_fed _ _ _ _ c.args.shared.now.entry _ _ _ c.feed_u64.ensures c.feed_u8.ensures c.feed_bytes.ensures c.seq.ensures c.kind.ensures c.content.ensures
