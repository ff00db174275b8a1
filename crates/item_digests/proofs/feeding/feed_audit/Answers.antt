use Rattle.std.proofs.Common.{subst}
use Rattle.item_forms.specs.declared.forms.AuditChallenge.{AuditChallenge}
use Rattle.item_forms.specs.Spelling.{audit_spelling}
use Rattle.item_digests.specs.Feeding.{Feeds}
use Rattle.item_digests.proofs.Fed.{both_fed}
use Rattle.item_digests.proofs.feeding.feed_audit.Goals as goal

pub returns : goal.returns
returns c =
    let all = both_fed _ _ _ _ _ (both_fed _ _ _ _ _ c.feed_u32.ensures c.feed_optional.ensures) c.feed_statement.ensures in
    subst (λ (x : AuditChallenge). Feeds c.args.hasher.now c.feed_statement.new.hasher (audit_spelling x)) c.challenge.view_is all
