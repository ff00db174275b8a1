use Rattle.std.proofs.Common.{◌≡◌, ℕ, ◌<◌, ◌≤◌, length, slice_index_or}
use Rattle.lms_sign.proofs.SideBySide.{no_signed}
use Rattle.lms_sign.proofs.many.group.Given as goal

abbrev pub invariant-loop-j : goal.invariant-loop-j
invariant-loop-j l = record {
  len : length l.group ≡ 8;
  own : (k : ℕ) → k < l.j → slice_index_or l.group k no_signed ≡ slice_index_or l.signed k no_signed;
  others : (k : ℕ) → k < 8 → l.j ≤ k → slice_index_or l.group k no_signed ≡ slice_index_or l.signed 0 no_signed;
}
