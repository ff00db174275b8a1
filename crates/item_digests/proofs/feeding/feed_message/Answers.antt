use Rattle.std.proofs.Common.{subst}
use Rattle.messages.specs.declared.message.Message.{Message}
use Rattle.item_forms.specs.Spelling.{message_spelling}
use Rattle.item_digests.specs.Feeding.{Feeds}
use Rattle.item_digests.proofs.Fed.{both_fed, bytes_fed}
use Rattle.item_digests.proofs.feeding.feed_message.Goals as goal

pub returns : goal.returns
returns c =
    let to = both_fed _ _ _ _ _ c.feed_u32.ensures c.feed_u32-2.ensures in
    let number = both_fed _ _ _ _ _ to c.feed_u64.ensures in
    let prev = both_fed _ _ _ _ _ number c.feed_hash.ensures in
    let sig = both_fed _ _ _ _ _ prev (bytes_fed _ _ _ _ c.feed_bytes.ensures c.as_slice.ensures) in
    let all = both_fed _ _ _ _ _ sig (bytes_fed _ _ _ _ c.feed_bytes-2.ensures c.as_slice-2.ensures) in
    subst (λ (x : Message). Feeds c.args.hasher.now c.feed_bytes-2.new.hasher (message_spelling x)) c.message.view_is all
