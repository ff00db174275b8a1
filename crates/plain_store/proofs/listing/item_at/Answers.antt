use Rattle.std.proofs.Common.{◌∙◌}
use Rattle.kept_evidence.proofs.Listed.{at, past}
use Rattle.plain_store.proofs.listing.item_at.Goals as goal

pub returns-then-place-kept-clause-item : goal.returns-then-place-kept-clause-item
returns-then-place-kept-clause-item g c = (past c.args.kept.now c.args.n c.requires c.if-place-kept.true).0

pub returns-then-place-kept-clause-kept : goal.returns-then-place-kept-clause-kept
returns-then-place-kept-clause-kept g c = (past c.args.kept.now c.args.n c.requires c.if-place-kept.true).1

pub returns-clause-item : goal.returns-clause-item
returns-clause-item g c = (at c.args.kept.now c.args.n c.in_ok-try_clone.field-0 _ c.requires c.if-place-kept.false (c.in_ok-try_clone.ensures ∙ c.index-kept-place.is)).0

pub returns-clause-kept : goal.returns-clause-kept
returns-clause-kept g c = (at c.args.kept.now c.args.n c.in_ok-try_clone.field-0 _ c.requires c.if-place-kept.false (c.in_ok-try_clone.ensures ∙ c.index-kept-place.is)).1
