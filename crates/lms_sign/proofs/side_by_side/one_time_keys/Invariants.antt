use Rattle.std.proofs.Common.{◌≡◌, ℕ, ◌<◌, ◌+◌, ◌*◌, [], length, take, slice_index_or}
use Rattle.sha2.specs.Sha256.{sha256}
use Rattle.lms_sign.specs.declared.signed.Signed.{Signed}
use Rattle.lms_sign.specs.Parameters.{chain_count}
use Rattle.lms_sign.specs.within.Eights.{key_of}
use Rattle.lms_sign.proofs.side_by_side.one_time_keys.Given as goal

abbrev pub invariant-loop-j : goal.invariant-loop-j
invariant-loop-j l = record {
  len : length l.room ≡ 8;
  each : (k : ℕ) → k < l.j → (d : Signed) → sha256 (take (22 + 32 * chain_count l.ots) (slice_index_or l.room k [])) ≡ key_of (slice_index_or l.group k d);
}
