use Rattle.std.proofs.Common.{◌∙◌, Some, ap, option_map}
use Rattle.item_digests.specs.Digests.{digest_of}
use Rattle.kept_evidence.proofs.Listed.{at, past}
use Rattle.plain_store.proofs.listing.digest_at.Goals as goal

pub returns-then-place-kept : goal.returns-then-place-kept
returns-then-place-kept g c = ap (option_map digest_of) (past c.args.kept.now c.args.n c.requires c.if-place-kept.true).0

pub returns : goal.returns
returns g c =
    ap Some (c.digest_of.ensures ∙ ap digest_of c.item.ensures)
    ∙ ap (option_map digest_of) (at c.args.kept.now c.args.n _ _ c.requires c.if-place-kept.false c.index-kept-place.is).0
