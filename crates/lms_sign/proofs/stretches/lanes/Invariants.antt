use Rattle.std.proofs.Common.{◌≡◌, ℕ, ◌<◌, ◌≤◌, length, slice_index, slice_index_or}
use Rattle.lms_sign.specs.declared.open_chain.OpenChain.{OpenChain}
use Rattle.lms_sign.proofs.stretches.lanes.Given as goal

abbrev pub invariant-loop-l : goal.invariant-loop-l
invariant-loop-l l = record {
  len : length l.numbers ≡ 8;
  lanes : (k : ℕ) → k < 8 → slice_index l.numbers k < length l.fn.chains;
  count : (k : ℕ) (d : OpenChain) → k < 8 → l.fn.count ≤ (slice_index_or l.fn.chains (slice_index l.numbers k) d).left;
}
