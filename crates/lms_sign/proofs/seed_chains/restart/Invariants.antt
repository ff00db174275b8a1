use Rattle.std.proofs.Common.{◌≡◌, ℕ, ◌<◌, ◌≤◌, length, slice_index, slice_index_or}
use Rattle.lms_sign.specs.declared.open_chain.OpenChain.{OpenChain}
use Rattle.lms_sign.specs.within.OpenChains.{HasRoom, restarted}
use Rattle.lms_sign.proofs.seed_chains.restart.Given as goal

abbrev pub invariant-loop-k : goal.invariant-loop-k
invariant-loop-k l = record {
  len : length l.chains ≡ length l.initial.chains;
  room : (k : ℕ) (d : OpenChain) → k < l.k → HasRoom (slice_index_or l.chains k d);
  each : (k : ℕ) (d : OpenChain) → k < l.k → slice_index_or l.chains k d ≡ restarted (slice_index_or l.initial.chains k d) (slice_index l.steps k);
  rest : (k : ℕ) (d : OpenChain) → l.k ≤ k → slice_index_or l.chains k d ≡ slice_index_or l.initial.chains k d;
}
