use Rattle.std.proofs.Common.{◌≤◌, length, sym, subst}
use Rattle.authenticators.specs.declared.authenticator.Authenticator.{Authenticator}
use Rattle.authenticators.specs.declared.signature.TheConstants.{LONGEST_SIGNATURE_TEXT}
use Rattle.authenticators.specs.Directory.{keys_at}
use Rattle.kept_evidence.proofs.convicting.signed_item.Goals as goal

pub item_of-requires : goal.item_of-requires
item_of-requires c =
    let s = c.args.statement.now in
    subst (λ (a : Authenticator). length a.sig ≤ LONGEST_SIGNATURE_TEXT) (sym c.in_ok-copy.ensures) (c.keys_sign.ensures.short (keys_at c.args.directory.now s.node) _ _ c.requires)
