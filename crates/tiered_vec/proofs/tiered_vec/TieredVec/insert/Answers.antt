use Rattle.std.proofs.Common.{arith, length, ap}
use Rattle.tiered_vec.proofs.Whole.{tiers_put}
use Rattle.tiered_vec.specs.Tiers.{Tiered}
use Rattle.tiered_vec.proofs.tiered_vec.TieredVec.insert.Goals as goal

pub invariant_of-self : goal.invariant_of-self
invariant_of-self g c =
    let v = c.self.inside in
    let same = ap (λ (t : Tiered g.row.T.Denot). length t.items) c.self.view_is in
    let room = ap (λ (t : Tiered g.row.T.Denot). t.room) c.self.view_is in
    let total = c.self.invariant.total in
    let inside = c.requires.inside in
    let roomy = c.requires.room in
    let put = c.put_in.ensures in
    tiers_put v.size v.tiers.items c.deref_mut.result.now c.put_in.new.tiers v.tiers.len v.len v.most c.args.place c.args.x c.self.invariant c.deref_mut.ensures.value v.tiers.ok.0 c.put_in.auto.tiers (omega arith) (omega arith) put.items put.filled put.room
