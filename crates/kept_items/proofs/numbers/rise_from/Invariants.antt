use Rattle.std.proofs.Common.{◌≡◌, drop}
use Rattle.kept_entries.specs.Shared.{entries_of}
use Rattle.kept_items.specs.within.Shared.{rises_from}
use Rattle.kept_items.proofs.numbers.rise_from.Given as goal

abbrev pub invariant-loop-handle : goal.invariant-loop-handle
invariant-loop-handle l = rises_from l.last (entries_of (drop l.handle-index l.handles)) ≡ rises_from l.fn.first (entries_of l.handles)
