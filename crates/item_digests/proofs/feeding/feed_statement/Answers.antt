use Rattle.item_digests.proofs.Fed.{both_fed, bytes_fed}
use Rattle.item_digests.proofs.feeding.feed_statement.Goals as goal

pub returns : goal.returns
returns c =
    both_fed _ _ _ _ _ (both_fed _ _ _ _ _ c.feed_u64.ensures c.feed_hash.ensures) (bytes_fed _ _ _ _ c.feed_bytes.ensures c.as_slice.ensures)
