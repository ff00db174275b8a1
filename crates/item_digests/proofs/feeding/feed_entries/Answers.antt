use Rattle.item_digests.proofs.Fed.{both_fed}
use Rattle.item_digests.proofs.feeding.feed_entries.Goals as goal

pub returns : goal.returns
returns c = both_fed _ _ _ _ _ c.feed_u32.ensures c.feed_each.ensures
