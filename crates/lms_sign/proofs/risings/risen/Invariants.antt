use Rattle.std.proofs.Common.{◌≡◌, ℕ, ◌<◌, ◌+◌, [], length, min, slice_index_or}
use Rattle.lms_sign.specs.declared.signed.Signed.{Signed}
use Rattle.lms_sign.specs.Parameters.{height}
use Rattle.lms_sign.specs.within.Eights.{hash_above}
use Rattle.lms_sign.proofs.risings.risen.Given as goal

abbrev pub invariant-loop-j : goal.invariant-loop-j
invariant-loop-j l = record {
  len : length l.risen ≡ 8;
  each : (i : ℕ) → i < l.j → (d : Signed) → slice_index_or l.risen i [] ≡ hash_above (slice_index_or l.group i d) (min (l.k + 1) (height (slice_index_or l.group i d).key.now.lms_type));
}
