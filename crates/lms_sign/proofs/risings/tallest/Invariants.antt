use Rattle.std.proofs.Common.{ℕ, ◌<◌, ◌≤◌, slice_index_or}
use Rattle.lms_sign.specs.declared.signed.Signed.{Signed}
use Rattle.lms_sign.specs.Parameters.{height}
use Rattle.lms_sign.proofs.risings.tallest.Given as goal

abbrev pub invariant-loop-j : goal.invariant-loop-j
invariant-loop-j l = (k : ℕ) (d : Signed) → k < l.j → height (slice_index_or l.group k d).key.now.lms_type ≤ l.most
