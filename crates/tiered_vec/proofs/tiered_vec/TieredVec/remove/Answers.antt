use Rattle.std.proofs.Common.{arith, length, ap}
use Rattle.tiered_vec.proofs.Whole.{tier_there, tiers_cut}
use Rattle.tiered_vec.specs.Tiers.{Tiered}
use Rattle.tiered_vec.proofs.tiered_vec.TieredVec.remove.Goals as goal

pub invariant_of-self : goal.invariant_of-self
invariant_of-self g c =
    let v = c.self.inside in
    let same = ap (λ (t : Tiered g.row.T.Denot). length t.items) c.self.view_is in
    let total = c.self.invariant.total in
    let inside = c.requires in
    let cut = c.take_out.ensures in
    tiers_cut v.size v.tiers.items c.deref_mut.result.now c.take_out.new.tiers v.tiers.len v.len v.most c.args.place c.self.invariant c.deref_mut.ensures.value v.tiers.ok.0 c.take_out.auto.tiers (omega (arith, same, total, inside)) cut.items cut.filled cut.room
