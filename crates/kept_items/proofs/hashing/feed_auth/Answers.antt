use Rattle.std.proofs.Common.{subst}
use Rattle.authenticators.specs.declared.authenticator.Authenticator.{Authenticator}
use Rattle.item_forms.specs.Spelling.{auth_spelling}
use Rattle.item_digests.specs.Feeding.{Feeds}
use Rattle.kept_items.proofs.Fed.{both_fed, bytes_fed}
use Rattle.kept_items.proofs.hashing.feed_auth.Goals as goal

pub returns : goal.returns
returns c =
    let number = both_fed _ _ _ _ _ c.feed_u32.ensures c.feed_u64.ensures in
    let hash = both_fed _ _ _ _ _ number c.feed_hash.ensures in
    subst (λ (x : Authenticator). Feeds c.args.hasher.now c.feed_bytes.new.hasher (auth_spelling x)) c.auth.view_is (both_fed _ _ _ _ _ hash (bytes_fed _ _ _ _ c.feed_bytes.ensures c.as_slice.ensures))
