use Rattle.std.proofs.Common.{◌≡◌, map, take}
use Rattle.kept_items.specs.within.Pairing.{pair_of}
use Rattle.kept_items.proofs.pair.listed.Given as goal

abbrev pub invariant-loop-handle : goal.invariant-loop-handle
invariant-loop-handle l = l.pairs.items ≡ map pair_of (take l.handle-index l.handles)
