use Rattle.std.proofs.Common.{rules, ◌≡◌, ◌∷◌, ℕ, sym, subst, vec_capacity}
use Rattle.std.specs.Vec.Iter.{into_iter_items}
use Rattle.evidence_set.specs.ItemSets.{pieces}
use Rattle.durable_store.specs.within.Takings.{Taking}
use Rattle.durable_store.proofs.Takings.{goes_on, most}
use Rattle.durable_store.proofs.taking.take_each.Goals as goal

pub loop-checked-preserved : goal.loop-checked-preserved
loop-checked-preserved g c =
    let next : into_iter_items c.loop-checked.checked-iterator ≡ c.in-Some.checked ∷ into_iter_items c.next.new.self = search rules in
    let before = g.S.Evidence.contents c.args.store.now in
    let on = goes_on g.P.Program.means before (pieces c.args.group.items) (vec_capacity c.loop-checked.news) _ _ _ _ _ _ _ _ next c.in_ok-is_new.ensures.told c.in_ok-is_new.ensures.taken c.push_reserved.ensures.items c.loop-checked.invariant in
    subst (λ (r : ℕ). Taking g.P.Program.means before (pieces c.args.group.items) (g.S.Evidence.contents c.take.new.store) c.push_reserved.new.self.items r (into_iter_items c.next.new.self)) (sym c.push_reserved.ensures.capacity) on

pub returns-in_err-is_new-clause-most : goal.returns-in_err-is_new-clause-most
returns-in_err-is_new-clause-most g c = λ x has.
    most g.P.Program.means (g.S.Evidence.contents c.args.store.now) (pieces c.args.group.items) _ _ _ _ c.loop-checked.invariant x (search rules)
