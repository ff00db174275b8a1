use Rattle.std.proofs.Common.{◌-◌, length}
use Rattle.indexed_store.specs.within.Digested.{AreDigests}
use Rattle.indexed_store.proofs.digests.make_each.Given as goal

abbrev pub invariant-loop-kept : goal.invariant-loop-kept
invariant-loop-kept g l = AreDigests l.made.items l.items

abbrev pub decreases-loop-kept : goal.decreases-loop-kept
decreases-loop-kept g l = length l.items - length l.made.items
