use Rattle.std.proofs.Common.{◌≡◌, ℕ, take}
use Rattle.std.specs.Prelude.{count_by}
use Rattle.std.specs.BTreeMap.{get}
use Rattle.std.specs.Ordering.{nat_cmp}
use Rattle.answers.specs.Showing.{is_of, told}
use Rattle.answers.proofs.tally.nodes_of.Given as goal

abbrev pub invariant-loop-one : goal.invariant-loop-one
invariant-loop-one l = (q : ℕ) → get nat_cmp l.nodes q ≡ told (count_by (is_of q) (take l.one-index l.seen))
