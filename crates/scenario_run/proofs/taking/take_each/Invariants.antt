use Rattle.std.proofs.Common.{◌≡◌}
use Rattle.std.specs.Vec.Iter.{into_iter_items}
use Rattle.scenario_run.specs.within.Dealt.{AllChecked}
use Rattle.scenario_run.proofs.taking.take_each.Given as goal

abbrev pub invariant-loop-item : goal.invariant-loop-item
invariant-loop-item g l = record {
  checked : AllChecked l.shared.directory g.P.Program.means (into_iter_items l.item-iterator);
  number : l.pass.number ≡ l.fn.pass.number;
}
