use Rattle.std.proofs.Common.{◌≡◌, ℕ, ◌<◌, ◌≤◌, length, slice_index_or}
use Rattle.lms_sign.specs.declared.stretches.Stretch.{Stretch}
use Rattle.lms_sign.proofs.stretches.cut.Given as goal

abbrev pub invariant-loop-i : goal.invariant-loop-i
invariant-loop-i l = record {
  len : length l.stretches ≡ 8;
  lane : l.lane ≤ 8;
  chains : (k : ℕ) (d : Stretch) → k < 8 → (slice_index_or l.stretches k d).chain < length l.fn.chains;
}
