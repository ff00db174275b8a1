use Rattle.std.proofs.Common.{◌≡◌, ℕ, ◌<◌, ◌+◌, [], length, take, slice_index_or}
use Rattle.sha2.specs.Sha256.{sha256}
use Rattle.lms_sign.specs.declared.signed.Signed.{Signed}
use Rattle.lms_sign.specs.Parameters.{height}
use Rattle.lms_sign.specs.within.Eights.{hash_above}
use Rattle.lms_sign.proofs.risings.texts_above.Given as goal

abbrev pub invariant-loop-j : goal.invariant-loop-j
invariant-loop-j l = record {
  len : length l.texts ≡ 8;
  each : (i : ℕ) → i < l.j → (d : Signed) → l.k < height (slice_index_or l.group i d).key.now.lms_type
      → sha256 (take 86 (slice_index_or l.texts i [])) ≡ hash_above (slice_index_or l.group i d) (l.k + 1);
}
