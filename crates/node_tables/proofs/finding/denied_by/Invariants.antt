use Rattle.std.proofs.Common.{◌≡◌, ◌≤◌, ◌<◌, ℕ, false, get_or, length}
use Rattle.node_tables.specs.declared.span.Span.{Span}
use Rattle.kept_items.specs.Positions.{shown}
use Rattle.node_tables.specs.Tables.{denies_at}
use Rattle.node_tables.proofs.finding.denied_by.Given as goal

abbrev pub invariant-loop-place : goal.invariant-loop-place
invariant-loop-place g l = record {
  inside : l.before ≤ length l.all;
  none : (k : ℕ) (d : Span) → l.before ≤ k → k < length l.all → denies_at l.items (shown l.said) (get_or l.all k d).item ≡ false;
}

abbrev pub decreases-loop-place : goal.decreases-loop-place
decreases-loop-place g l = l.before
