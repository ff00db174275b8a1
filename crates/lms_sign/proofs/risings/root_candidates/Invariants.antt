use Rattle.std.proofs.Common.{◌≡◌, ℕ, ◌<◌, [], min, slice_index_or}
use Rattle.lms_sign.specs.declared.signed.Signed.{Signed}
use Rattle.lms_sign.specs.Parameters.{height}
use Rattle.lms_sign.specs.within.Eights.{hash_above}
use Rattle.lms_sign.proofs.risings.root_candidates.Given as goal

abbrev pub invariant-loop-k : goal.invariant-loop-k
invariant-loop-k l = (j : ℕ) (d : Signed) → j < 8 → slice_index_or l.hashes j [] ≡ hash_above (slice_index_or l.group j d) (min l.k (height (slice_index_or l.group j d).key.now.lms_type))
