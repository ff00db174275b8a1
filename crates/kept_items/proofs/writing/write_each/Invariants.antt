use Rattle.std.proofs.Common.{◌≡◌, ◌++◌, take}
use Rattle.std.specs.List.{flat_map}
use Rattle.kept_items.specs.within.Shared.{shared_spelling}
use Rattle.kept_items.proofs.writing.write_each.Given as goal

abbrev pub invariant-loop-handle : goal.invariant-loop-handle
invariant-loop-handle l = l.writer ≡ l.initial.writer ++ flat_map shared_spelling (take l.handle-index l.handles)
