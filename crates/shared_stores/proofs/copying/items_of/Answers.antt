use Rattle.shared_stores.proofs.Copied.{copied_more}
use Rattle.shared_stores.proofs.copying.items_of.Goals as goal

pub loop-n-preserved : goal.loop-n-preserved
loop-n-preserved g c = copied_more _ _ _ _ _ c.in_ok-copy_at.ensures c.loop-n.invariant c.in_ok-push.ensures.items
