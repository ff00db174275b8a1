use Rattle.std.proofs.Common.{◌≡◌, take}
use Rattle.evidence_set.specs.ItemSets.{listed}
use Rattle.shared_stores.proofs.copying.items_of.Given as goal

abbrev pub invariant-loop-n : goal.invariant-loop-n
invariant-loop-n g l = l.items.items ≡ take l.n (listed (g.S.Evidence.contents l.store).items)
