use Rattle.item_digests.proofs.Fed.{both_fed, bytes_fed}
use Rattle.item_digests.proofs.feeding.feed_ack.Goals as goal

pub returns : goal.returns
returns c =
    let number = both_fed _ _ _ _ _ c.feed_message.ensures c.feed_u64.ensures in
    both_fed _ _ _ _ _ (both_fed _ _ _ _ _ number c.feed_hash.ensures) (bytes_fed _ _ _ _ c.feed_bytes.ensures c.as_slice.ensures)
