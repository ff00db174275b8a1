use Rattle.std.proofs.Common.{sym, subst}
use Rattle.item_forms.specs.declared.forms.Form.{Form}
use Rattle.item_forms.specs.Forms.{shown}
use Rattle.item_forms.specs.Spelling.{spelling}
use Rattle.item_digests.specs.Feeding.{Feeds}
use Rattle.item_digests.proofs.Fed.{both_fed}
use Rattle.item_digests.proofs.feeding.feed_tagged.Goals as goal

pub returns-in-Auth : goal.returns-in-Auth
returns-in-Auth c =
    subst (λ (x : Form). Feeds c.args.hasher.now c.feed_auth.new.hasher (spelling (shown x))) (sym c.in-Auth.is) (both_fed _ _ _ _ _ c.feed_u8.ensures c.feed_auth.ensures)

pub returns-in-Send : goal.returns-in-Send
returns-in-Send c =
    subst (λ (x : Form). Feeds c.args.hasher.now c.feed_message.new.hasher (spelling (shown x))) (sym c.in-Send.is) (both_fed _ _ _ _ _ c.feed_u8-in-Send.ensures c.feed_message.ensures)

pub returns-in-Ack : goal.returns-in-Ack
returns-in-Ack c =
    subst (λ (x : Form). Feeds c.args.hasher.now c.feed_ack.new.hasher (spelling (shown x))) (sym c.in-Ack.is) (both_fed _ _ _ _ _ c.feed_u8-in-Ack.ensures c.feed_ack.ensures)
