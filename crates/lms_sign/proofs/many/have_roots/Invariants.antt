use Rattle.std.proofs.Common.{◌≡◌, ℕ, ◌<◌, false, length, slice_index_or}
use Rattle.lms_sign.specs.declared.signed.Signed.{Signed}
use Rattle.lms_sign.specs.SignedMessages.{is_signed}
use Rattle.lms_sign.proofs.many.have_roots.Given as goal

abbrev pub invariant-loop-j : goal.invariant-loop-j
invariant-loop-j l = record {
  len : length l.answers ≡ 8;
  each : (k : ℕ) → k < l.j → (d : Signed) → slice_index_or l.answers k false ≡ is_signed (slice_index_or l.group k d);
}
