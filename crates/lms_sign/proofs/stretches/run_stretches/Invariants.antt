use Rattle.std.proofs.Common.{◌≡◌, ℕ, ◌<◌, length, slice_index_or}
use Rattle.lms_sign.specs.declared.open_chain.OpenChain.{OpenChain}
use Rattle.lms_sign.specs.declared.stretches.Stretch.{Stretch}
use Rattle.lms_sign.specs.within.OpenChains.{IsAhead}
use Rattle.lms_sign.proofs.stretches.run_stretches.Given as goal

abbrev pub invariant-loop : goal.invariant-loop
invariant-loop l = record {
  len : length l.chains ≡ length l.initial.chains;
  stretches : (k : ℕ) (d : Stretch) → k < 8 → (slice_index_or l.stretches k d).chain < length l.initial.chains;
  ahead : (i : ℕ) (d : OpenChain) → i < length l.initial.chains → IsAhead (slice_index_or l.initial.chains i d) (slice_index_or l.chains i d);
}
