use Rattle.std.proofs.Common.{◌≡◌, ◌-◌, ℕ, false, not, subst, refl, arith, ◌∙◌}
use Rattle.std.specs.Prelude.{slice_get}
use Rattle.std.specs.List.{filter}
use Rattle.kept_items.specs.Positions.{positions}
use Rattle.node_tables.specs.within.Sendings.{is_received}
use Rattle.node_tables.proofs.Receipts.{one_more}
use Rattle.node_tables.proofs.Sendings.{all_stay}
use Rattle.node_tables.proofs.closing.take_each_received.Goals as goal

pub loop-place-init : goal.loop-place-init
loop-place-init g c = (all_stay (λ (i : ℕ). false) c.args.places.now.items (λ k d lt. refl), c.requires, omega arith)

pub loop-place-preserved : goal.loop-place-preserved
loop-place-preserved g c = (
  one_more c.args.items.now c.args.node c.args.kept.now c.loop-place.place c.args.places.now.items c.loop-place.places.items c.take_received.new.places.items c.loop-place.invariant.0 c.take_received.ensures.items,
  c.take_received.ensures.asked,
  (let more = c.take_received.ensures.room in let old = c.loop-place.invariant.2 in omega (arith, more, old)),
)

pub returns-clause-items : goal.returns-clause-items
returns-clause-items g c =
    let last : c.loop-place.place ≡ c.count_behind-count.result = omega (arith, c.loop-place-test.false, c.loop-place.auto.place-end) in
    let all : c.loop-place.place ≡ positions c.args.kept.now.item.fields - 1 = last ∙ c.count_behind-count.ensures in
    subst (λ n. c.loop-place.places.items ≡ filter (λ i. not (is_received c.args.node c.args.kept.now.item.fields c.args.kept.now.findings n (slice_get c.args.items.now i))) c.args.places.now.items) all c.loop-place.invariant.0
