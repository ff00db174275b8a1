use Rattle.std.proofs.Common.{◌≡◌, ◌++◌, drop}
use Rattle.kept_items.specs.within.Shared.{shared_of}
use Rattle.kept_items.proofs.handle.share_each.Given as goal

abbrev pub invariant-loop-entry : goal.invariant-loop-entry
invariant-loop-entry l = l.handles.items ++ shared_of l.before (drop l.entry-index l.entries) l.hashes_left l.quotes_left ≡ shared_of l.fn.prev l.entries l.fn.hashes l.fn.quotes
