use Rattle.std.proofs.Common.{◌≡◌, ◌<◌, ◌≤◌, ℕ, false, get_or, length}
use Rattle.node_tables.specs.declared.mark.Mark.{Mark}
use Rattle.node_tables.specs.Hashed.{link_at}
use Rattle.node_tables.specs.within.Marking.{has_hash}
use Rattle.node_tables.proofs.holding.place_of.Given as goal

abbrev pub invariant-loop-at : goal.invariant-loop-at
invariant-loop-at g l = (k : ℕ) (d : Mark) → l.initial.at ≤ k → k < l.at → k < length l.holders.items → has_hash (link_at l.items (get_or l.holders.items k d).item (get_or l.holders.items k d).position) l.hash ≡ false
