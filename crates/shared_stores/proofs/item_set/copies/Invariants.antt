use Rattle.std.proofs.Common.{◌≡◌, take}
use Rattle.shared_stores.proofs.item_set.copies.Given as goal

abbrev pub invariant-loop-item : goal.invariant-loop-item
invariant-loop-item l = l.copies.items ≡ take l.item-index l.items
