use Rattle.std.proofs.Common.{sym}
use Rattle.tiered_vec.proofs.Grown.{keeps_more, keeps_same}
use Rattle.tiered_vec.proofs.growing.add_tiers.Goals as goal

pub loop-alloc-preserved : goal.loop-alloc-preserved
loop-alloc-preserved g c = keeps_same _ _ _ _ (keeps_more _ _ _ c.new.result c.loop-alloc.invariant c.new.ensures.items) (sym c.in_ok-push.ensures.items)

pub returns-in_err-push-clause-room : goal.returns-in_err-push-clause-room
returns-in_err-push-clause-room g c = (keeps_same _ _ _ _ c.loop-alloc.invariant (sym c.in_err-push.ensures.items)).room
