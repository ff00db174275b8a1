use Rattle.std.proofs.Common.{arith, sym, ◌+◌, ◌-◌, ◌/◌}
use Rattle.tiered_vec.proofs.Narrowed.{narrows_before, narrows_behind}
use Rattle.tiered_vec.proofs.tiered_vec.TieredVec.search.Goals as goal

pub loop-low-preserved-in-Less : goal.loop-low-preserved-in-Less
loop-low-preserved-in-Less g c =
    let order = g.Q.Probe.order c.args.probe.now in
    let rising = c.loop-low.invariant.rising in
    narrows_behind order c.args.self.now.items c.loop-low.low c.loop-low.high (c.loop-low.low + (c.loop-low.high - c.loop-low.low) / 2) c.at.result.now c.loop-low.invariant (omega arith) (omega arith) c.at.ensures
    (sym {b = order c.at.result.now} c.in-Less.ensures)

pub loop-low-preserved : goal.loop-low-preserved
loop-low-preserved g c =
    let order = g.Q.Probe.order c.args.probe.now in
    let rising = c.loop-low.invariant.rising in
    narrows_before order c.args.self.now.items c.loop-low.low c.loop-low.high (c.loop-low.low + (c.loop-low.high - c.loop-low.low) / 2) c.at.result.now c.loop-low.invariant (omega arith) (omega arith) c.at.ensures
    (sym {b = order c.at.result.now} c.in-Greater.ensures)
