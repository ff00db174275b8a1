use Rattle.std.proofs.Common.{◌≡◌, ℕ, ◌<◌, ◌-◌, length, slice_index_or}
use Rattle.lms_sign.specs.declared.open_chain.OpenChain.{OpenChain}
use Rattle.lms_sign.specs.within.OpenChains.{IsAhead}
use Rattle.lms_sign.proofs.chain_lanes.moved.Given as goal

abbrev pub invariant-loop-l : goal.invariant-loop-l
invariant-loop-l l = record {
  len : length l.moved ≡ 8;
  ahead : (k : ℕ) (d : OpenChain) → k < l.l → IsAhead (slice_index_or l.fn.runs k d) (slice_index_or l.moved k d);
  left : (k : ℕ) (d : OpenChain) → k < l.l → (slice_index_or l.moved k d).left ≡ (slice_index_or l.fn.runs k d).left - l.fn.count;
}
