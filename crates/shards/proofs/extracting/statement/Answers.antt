use Rattle.std.proofs.Common.{◌≤◌, ℕ, List, length, sym, subst}
use Rattle.authenticators.specs.declared.signature.TheConstants.{LONGEST_SIGNATURE_TEXT}
use Rattle.authenticators.specs.Directory.{keys_at}
use Rattle.shards.proofs.extracting.statement.Goals as goal

pub item_of-requires : goal.item_of-requires
item_of-requires c =
    subst (λ (text : List ℕ). length text ≤ LONGEST_SIGNATURE_TEXT) (sym c.in_ok-sig.ensures) (c.keys_sign.ensures.short (keys_at c.args.directory.now c.args.receipt.now.from) _ _ c.requires.signed)
