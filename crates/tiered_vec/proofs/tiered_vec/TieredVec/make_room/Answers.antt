use Rattle.std.proofs.Common.{Global, List, subst, sym}
use Rattle.std.specs.declared.collections.VecDeque.{VecDeque}
use Rattle.tiered_vec.specs.within.Tiering.{HaveRoom, capacities}
use Rattle.tiered_vec.proofs.Whole.{full_tiers, tiers_added, tiers_grown}
use Rattle.tiered_vec.proofs.tiered_vec.TieredVec.make_room.Goals as goal

pub invariant_of-self : goal.invariant_of-self
invariant_of-self g c =
    let added = c.in_err-add_tiers.ensures in
    tiers_added c.self.inside.size c.self.inside.tiers.items c.add_tiers.new.tiers.items c.self.inside.len c.self.inside.most c.self.invariant (record { items = added.items; filled = added.filled; room = added.room })

pub invariant_of-self-in_err-grow_tiers : goal.invariant_of-self-in_err-grow_tiers
invariant_of-self-in_err-grow_tiers g c =
    let v = c.self.inside in
    let added = c.in_ok-add_tiers.ensures in
    let whole = tiers_added v.size v.tiers.items c.add_tiers.new.tiers.items v.len v.most c.self.invariant (record { items = added.items; filled = added.filled; room = added.room }) in
    let more = c.in_err-grow_tiers.ensures in
    let R : List (VecDeque g.row.T.Denot Global) → Type 0 = λ ts. HaveRoom v.size (capacities ts) v.most in
    tiers_grown v.size c.add_tiers.new.tiers.items c.deref_mut.result.now c.grow_tiers.new.tiers c.add_tiers.new.tiers.len v.len v.most whole c.deref_mut.ensures.value c.add_tiers.new.tiers.ok.0 c.grow_tiers.auto.tiers more.items more.lengths (more.room v.most (subst R (sym c.deref_mut.ensures.value) whole.room))

pub grow_tiers-requires-clause-full : goal.grow_tiers-requires-clause-full
grow_tiers-requires-clause-full g c = λ k lt.
    let v = c.self.inside in
    let added = c.in_ok-add_tiers.ensures in
    let whole = tiers_added v.size v.tiers.items c.add_tiers.new.tiers.items v.len v.most c.self.invariant (record { items = added.items; filled = added.filled; room = added.room }) in
    full_tiers v.size c.add_tiers.new.tiers.items c.deref_mut.result.now v.len v.most k whole c.deref_mut.ensures.value lt
