use Rattle.std.proofs.Common.{◌≡◌, take}
use Rattle.kept_entries.specs.Shared.{hashes_of}
use Rattle.kept_items.proofs.copying.copy_hashes.Given as goal

abbrev pub invariant-loop-handle : goal.invariant-loop-handle
invariant-loop-handle l = l.hashes.items ≡ hashes_of (take l.handle-index l.handles)
