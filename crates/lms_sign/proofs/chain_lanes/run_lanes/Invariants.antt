use Rattle.std.proofs.Common.{◌≡◌, ℕ, ◌<◌, ◌-◌, length, slice_index, slice_index_or}
use Rattle.lms_sign.specs.declared.open_chain.OpenChain.{OpenChain}
use Rattle.lms_sign.specs.within.OpenChains.{IsAhead}
use Rattle.lms_sign.proofs.chain_lanes.run_lanes.Given as goal

abbrev pub invariant-loop-l : goal.invariant-loop-l
invariant-loop-l l = record {
  len : length l.chains ≡ length l.initial.chains;
  ahead : (i : ℕ) (d : OpenChain) → i < length l.initial.chains → IsAhead (slice_index_or l.initial.chains i d) (slice_index_or l.chains i d);
  left : (k : ℕ) (d : OpenChain) → k < l.l → (slice_index_or l.chains (slice_index l.lanes k) d).left ≡ (slice_index_or l.initial.chains (slice_index l.lanes k) d).left - l.count;
}
