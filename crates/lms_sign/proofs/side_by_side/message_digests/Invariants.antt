use Rattle.std.proofs.Common.{◌≡◌, ℕ, ◌<◌, ◌+◌, [], length, take, slice_index_or}
use Rattle.sha2.specs.Sha256.{sha256}
use Rattle.lms_sign.specs.declared.signed.Signed.{Signed}
use Rattle.lms_sign.specs.within.Eights.{digest_of}
use Rattle.lms_sign.proofs.side_by_side.message_digests.Given as goal

abbrev pub invariant-loop-j : goal.invariant-loop-j
invariant-loop-j l = record {
  len : length l.room ≡ 8;
  each : (k : ℕ) → k < l.j → (d : Signed) → sha256 (take (54 + l.len) (slice_index_or l.room k [])) ≡ digest_of (slice_index_or l.group k d);
}
