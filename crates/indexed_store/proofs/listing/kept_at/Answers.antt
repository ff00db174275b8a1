use Rattle.std.proofs.Common.{None, Some, ap, sym, ◌∙◌}
use Rattle.std.proofs.lemmas.Option.{slice_get-get_or, slice_get_past}
use Rattle.evidence_item.specs.Checking.{Checked}
use Rattle.indexed_store.proofs.Listed.{at_place, behind, item_is}
use Rattle.indexed_store.proofs.listing.kept_at.Goals as goal

pub returns-in_default-clause-item : goal.returns-in_default-clause-item
returns-in_default-clause-item g c =
    item_is c.args.index.now.items.items c.args.index.now.order.items c.requires c.args.n None (behind c.args.index.now.items.items c.args.index.now.order.items c.requires c.args.n (sym c.in_default.ensures))

pub returns-in-None-clause-item : goal.returns-in-None-clause-item
returns-in-None-clause-item g c =
    let place = c.in-Some.place.now in
    item_is c.args.index.now.items.items c.args.index.now.order.items c.requires c.args.n None
    (at_place c.args.index.now.items.items c.args.index.now.order.items c.requires c.args.n place None (sym c.in-Some.ensures) (rw c.deref.ensures.value at (slice_get_past c.deref.result.now place c.in-None.ensures.lookup.3)))

pub returns-in-Some-get-clause-item : goal.returns-in-Some-get-clause-item
returns-in-Some-get-clause-item g c =
    let place = c.in-Some.place.now in
    let kept = c.in-Some-get.kept.now in
    let named = c.in-Some-get.ensures.lookup in
    item_is c.args.index.now.items.items c.args.index.now.order.items c.requires c.args.n (Some kept)
    (at_place c.args.index.now.items.items c.args.index.now.order.items c.requires c.args.n place (Some kept) (sym c.in-Some.ensures)
    (rw c.deref.ensures.value at (slice_get-get_or c.deref.result.now place kept named.3.0 ∙ ap (λ (x : Checked). Some x) (sym named.1))))
