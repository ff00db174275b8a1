use Rattle.std.proofs.Common.{◌≤◌, ◌-◌, ℕ, length}
use Rattle.std.specs.Prelude.{slice_get}
use Rattle.node_tables.specs.within.Sendings.{audited_by}
use Rattle.node_tables.proofs.Taken.{Looked}
use Rattle.node_tables.proofs.auditing.take_answered.Given as goal

abbrev pub invariant-loop-at : goal.invariant-loop-at
invariant-loop-at g l = record {
  looked : Looked (λ (i : ℕ). audited_by (slice_get l.items i) (slice_get l.items l.answer)) l.fn.places.items l.places.items l.at;
  room : l.fn.places.room ≤ l.places.room;
}

abbrev pub decreases-loop-at : goal.decreases-loop-at
decreases-loop-at g l = length l.places.items - l.at
