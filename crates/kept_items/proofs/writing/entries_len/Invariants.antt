use Rattle.std.proofs.Common.{◌≡◌, length, take}
use Rattle.std.specs.List.{flat_map}
use Rattle.kept_items.specs.within.Shared.{shared_spelling}
use Rattle.kept_items.proofs.writing.entries_len.Given as goal

abbrev pub invariant-loop-handle : goal.invariant-loop-handle
invariant-loop-handle l = l.len ≡ length (flat_map shared_spelling (take l.handle-index l.handles))
