use Rattle.std.proofs.Common.{◌≡◌, ◌<◌, ◌≤◌, ℕ, false, get_or, length}
use Rattle.node_tables.specs.declared.mark.Mark.{Mark}
use Rattle.node_tables.specs.within.Placing.{answers_at}
use Rattle.node_tables.proofs.asking.one_near_answers.Given as goal

abbrev pub invariant-loop-at : goal.invariant-loop-at
invariant-loop-at g l = (k : ℕ) (d : Mark) → l.initial.at ≤ k → k < l.at → k < length l.holders.items → answers_at l.items l.challenge (get_or l.holders.items k d).item ≡ false
