use Rattle.std.proofs.Common.{ℕ, ◌<◌, slice_index_or}
use Rattle.lms_sign.specs.declared.signed.Signed.{Signed}
use Rattle.lms_sign.specs.within.Eights.{IsLike}
use Rattle.lms_sign.proofs.many.alike.Given as goal

abbrev pub invariant-loop-j : goal.invariant-loop-j
invariant-loop-j l = (k : ℕ) → k < l.j → (d : Signed) → IsLike (slice_index_or l.signed 0 d) (slice_index_or l.signed k d)
