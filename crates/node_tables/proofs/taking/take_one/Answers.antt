use Rattle.std.proofs.Common.{◌≡◌, sym, ap, ◌∙◌}
use Rattle.std.specs.Prelude.{Some, slice_get}
use Rattle.std.proofs.lemmas.Option.{slice_get-get_or, slice_get_past}
use Rattle.evidence_item.specs.Checking.{Checked}
use Rattle.node_tables.proofs.Audited.{none_found, none_like, one_found, some_like}
use Rattle.node_tables.proofs.Taken.{one_removed}
use Rattle.node_tables.proofs.taking.take_one.Goals as goal

pub returns-in_default-clause-items : goal.returns-in_default-clause-items
returns-in_default-clause-items g c = none_like c.args.items.now c.args.places.now.items (slice_get c.args.items.now c.args.place) (slice_get_past c.args.items.now c.args.place c.in_default.ensures.lookup.3)

pub returns-in-Ok-clause-items : goal.returns-in-Ok-clause-items
returns-in-Ok-clause-items g c =
    let items = c.args.items.now in
    let old = c.args.places.now.items in
    let x = c.in-Some.kept.now in
    let named = c.in-Some.ensures.lookup in
    let here : slice_get items c.args.place ≡ Some x = slice_get-get_or items c.args.place x named.3.0 ∙ ap (λ (y : Checked). Some y) (sym named.1) in
    some_like items old (slice_get items c.args.place) x c.remove.new.self.items here (c.remove.ensures.items ∙ one_removed old c.in-Ok.at ∙ one_found items old c.requires x c.in-Ok.at c.in-Ok.ensures.bound c.in-Ok.ensures.position)

pub returns-in-Err-clause-items : goal.returns-in-Err-clause-items
returns-in-Err-clause-items g c =
    let items = c.args.items.now in
    let old = c.args.places.now.items in
    let x = c.in-Some.kept.now in
    let named = c.in-Some.ensures.lookup in
    let here : slice_get items c.args.place ≡ Some x = slice_get-get_or items c.args.place x named.3.0 ∙ ap (λ (y : Checked). Some y) (sym named.1) in
    some_like items old (slice_get items c.args.place) x old here (none_found items old c.requires x c.in-Err.field-0 c.in-Err.ensures.bound c.in-Err.ensures.position)
