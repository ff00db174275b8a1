use Rattle.std.proofs.Common.{◌≡◌, take}
use Rattle.kept_items.specs.within.Shared.{quotes_of}
use Rattle.kept_items.proofs.copying.copy_quotes.Given as goal

abbrev pub invariant-loop-handle : goal.invariant-loop-handle
invariant-loop-handle l = l.quotes.items ≡ quotes_of (take l.handle-index l.handles)
