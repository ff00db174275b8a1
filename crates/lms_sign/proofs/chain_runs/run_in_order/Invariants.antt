use Rattle.std.proofs.Common.{◌≡◌, ℕ, ◌<◌, ◌≤◌, ◌+◌, length, slice_index_or, All, Contains}
use Rattle.lms_sign.specs.declared.open_chain.OpenChain.{OpenChain}
use Rattle.lms_sign.specs.within.OpenChains.{IsAhead}
use Rattle.lms_sign.proofs.chain_runs.run_in_order.Given as goal

abbrev pub invariant-loop-ended : goal.invariant-loop-ended
invariant-loop-ended l = record {
  chains : length l.chains ≡ length l.initial.chains;
  order : length l.order ≡ length l.initial.order;
  ahead : (i : ℕ) (d : OpenChain) → i < length l.initial.chains → IsAhead (slice_index_or l.initial.chains i d) (slice_index_or l.chains i d);
  entries : All (λ x. x.1 < length l.initial.chains) l.order;
  kept : (x : ℕ × ℕ) → Contains l.initial.order x → Contains l.order x;
  ends : (k : ℕ) (e : ℕ × ℕ) (d : OpenChain) → length l.order ≤ k + l.ended → k < length l.order → (slice_index_or l.chains (slice_index_or l.order k e).1 d).left ≡ 0;
}
