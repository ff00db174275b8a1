use Rattle.std.proofs.Common.{◌≡◌, sym, ap, arith, ◌∙◌}
use Rattle.std.specs.Prelude.{Some, slice_get}
use Rattle.std.proofs.lemmas.Option.{slice_get-get_or}
use Rattle.evidence_item.specs.Checking.{Checked}
use Rattle.node_tables.proofs.Hashed.{linked_at, linked_before}
use Rattle.node_tables.proofs.auditing.count_entries.Goals as goal

pub returns-in-Some : goal.returns-in-Some
returns-in-Some g c = λ k x at.
    let y = c.in-Some.kept.now in
    let named = c.in-Some.ensures.lookup in
    let here : slice_get c.args.items.now c.args.answer ≡ Some y = slice_get-get_or c.args.items.now c.args.answer y named.3.0 ∙ ap (λ (z : Checked). Some z) (sym named.1) in
    let lt = linked_before y.item.fields k x (sym (linked_at c.args.items.now c.args.answer k y here) ∙ at) in
    omega (arith, lt, c.positions.ensures, c.saturating_sub.ensures)
