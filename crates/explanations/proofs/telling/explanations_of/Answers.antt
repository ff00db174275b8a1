use Rattle.std.proofs.Common.{List, arith, subst, take_all}
use Rattle.explanations.specs.declared.why.NodeWhy.{NodeWhy}
use Rattle.explanations.specs.within.Telling.{AreTold}
use Rattle.explanations.proofs.Rows.{one_told}
use Rattle.explanations.proofs.telling.explanations_of.Goals as goal

pub loop-row-preserved : goal.loop-row-preserved
loop-row-preserved g c = one_told c.args.whys.now c.loop-row.row-index c.row-item.result c.loop-row.nodes.items _ c.in_ok-told.told c.in_ok-push.ensures.items c.loop-row.invariant c.loop-row-test.true c.in_ok-told.ensures c.row-item.is

pub returns : goal.returns
returns g c = subst (λ (rows : List NodeWhy). AreTold rows c.loop-row.nodes.items) (take_all c.loop-row.row-index c.args.whys.now (omega arith)) c.loop-row.invariant
