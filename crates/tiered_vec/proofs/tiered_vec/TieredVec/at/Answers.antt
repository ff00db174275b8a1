use Rattle.std.proofs.Common.{◌≡◌, arith, length, ap, get_or, subst, List}
use Rattle.tiered_vec.proofs.Whole.{at_place, at_tier}
use Rattle.tiered_vec.specs.Tiers.{Tiered}
use Rattle.tiered_vec.proofs.tiered_vec.TieredVec.at.Goals as goal

pub index-requires-2 : goal.index-requires-2
index-requires-2 g c =
    let v = c.self.inside in
    let same = ap (λ (t : Tiered g.row.T.Denot). length t.items) c.self.view_is in
    let total = c.self.invariant.total in
    let asked = c.requires in
    at_tier v.size v.tiers.items v.len v.most c.args.place c.index.result.now c.self.invariant (omega arith) c.index.ensures

pub returns : goal.returns
returns g c =
    let v = c.self.inside in
    let same = ap (λ (t : Tiered g.row.T.Denot). length t.items) c.self.view_is in
    let total = c.self.invariant.total in
    let asked = c.requires in
    let found = at_place v.size v.tiers.items v.len v.most c.args.place c.index.result.now c.index-2.result.now c.self.invariant (omega arith) c.index.ensures c.index-2.ensures in
    let P : List g.row.T.Denot → Type 0 = λ xs. c.index-2.result.now ≡ get_or xs c.args.place c.index-2.result.now in
    subst P (ap (λ (t : Tiered g.row.T.Denot). t.items) c.self.view_is) found
