use Rattle.std.proofs.Common.{◌≡◌, take}
use Rattle.kept_entries.specs.Shared.{entries_of}
use Rattle.kept_items.proofs.copying.copy_entries.Given as goal

abbrev pub invariant-loop-handle : goal.invariant-loop-handle
invariant-loop-handle l = l.entries.items ≡ entries_of (take l.handle-index l.handles)
