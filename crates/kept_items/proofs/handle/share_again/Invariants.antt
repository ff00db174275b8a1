use Rattle.std.proofs.Common.{◌≡◌, take}
use Rattle.kept_items.proofs.handle.share_again.Given as goal

abbrev pub invariant-loop-handle : goal.invariant-loop-handle
invariant-loop-handle l = l.again.items ≡ take l.handle-index l.handles
