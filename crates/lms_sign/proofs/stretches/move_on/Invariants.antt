use Rattle.std.proofs.Common.{◌≡◌, ℕ, ◌<◌, length, slice_index_or}
use Rattle.lms_sign.specs.declared.stretches.Stretch.{Stretch}
use Rattle.lms_sign.proofs.stretches.move_on.Given as goal

abbrev pub invariant-loop-l : goal.invariant-loop-l
invariant-loop-l l = (length l.stretches ≡ 8) × ((k : ℕ) (d : Stretch) → k < 8 → (slice_index_or l.stretches k d).chain < length l.fn.chains)
