use Rattle.std.proofs.Common.{◌++◌, Option, Some, ap, append-nil, map, sym, ◌∙◌}
use Rattle.std.proofs.lemmas.List.{map_push}
use Rattle.std.proofs.lemmas.Option.{slice_get-get_or, slice_get_past}
use Rattle.evidence_item.specs.Checking.{Checked}
use Rattle.node_tables.specs.Places.{named_item}
use Rattle.indexed_store.specs.declared.listing.Lent.{Lent}
use Rattle.indexed_store.proofs.listing.lend.Goals as goal

pub returns-in_default : goal.returns-in_default
returns-in_default g c =
    let before = map (λ (l : Lent _). l.kept.now.item) c.args.found.now.items in
    sym (ap (λ (o : Option Checked). before ++ named_item o) (slice_get_past c.args.items.now c.args.place c.in_default.ensures.lookup.3) ∙ append-nil before)

pub returns : goal.returns
returns g c =
    let before = map (λ (l : Lent _). l.kept.now.item) c.args.found.now.items in
    let checked = c.in-Some.kept.now in
    let named = c.in-Some.ensures.lookup in
    ap (map (λ (l : Lent _). l.kept.now.item)) c.in_ok-push.ensures.items
    ∙ map_push (λ (l : Lent _). l.kept.now.item) c.args.found.now.items _
    ∙ sym (ap (λ (o : Option Checked). before ++ named_item o) (slice_get-get_or c.args.items.now c.args.place checked named.3.0 ∙ ap (λ (x : Checked). Some x) (sym named.1)))
