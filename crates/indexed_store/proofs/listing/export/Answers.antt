use Rattle.std.proofs.Common.{ap, map, ◌∙◌}
use Rattle.indexed_store.specs.declared.listing.Lent.{Lent}
use Rattle.indexed_store.proofs.Listed.{text_of}
use Rattle.indexed_store.proofs.listing.export.Goals as goal

pub returns : goal.returns
returns g c = c.in_ok-text.ensures ∙ text_of (λ (l : Lent _). l.kept.now.item) c.deref.result.now c.args.index.now.items.items c.args.index.now.order.items c.requires (ap (map (λ (l : Lent _). l.kept.now.item)) c.deref.ensures.value ∙ c.in_ok-lent.ensures)
