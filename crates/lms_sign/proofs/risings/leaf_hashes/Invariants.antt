use Rattle.std.proofs.Common.{◌≡◌, ℕ, ◌<◌, [], length, take, slice_index_or}
use Rattle.sha2.specs.Sha256.{sha256}
use Rattle.lms_sign.specs.declared.signed.Signed.{Signed}
use Rattle.lms_sign.specs.within.Eights.{hash_above}
use Rattle.lms_sign.proofs.risings.leaf_hashes.Given as goal

abbrev pub invariant-loop-j : goal.invariant-loop-j
invariant-loop-j l = record {
  len : length l.texts ≡ 8;
  each : (k : ℕ) → k < l.j → (d : Signed) → sha256 (take 54 (slice_index_or l.texts k [])) ≡ hash_above (slice_index_or l.group k d) 0;
}
