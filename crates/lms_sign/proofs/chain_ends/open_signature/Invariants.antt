use Rattle.std.proofs.Common.{◌≡◌, ℕ, ◌<◌, length, slice_index_or}
use Rattle.lms_sign.specs.declared.open_chain.OpenChain.{OpenChain}
use Rattle.lms_sign.specs.Parameters.{chain_count}
use Rattle.lms_sign.specs.within.OpenChains.{HasRoom, from_signature}
use Rattle.lms_sign.proofs.chain_ends.open_signature.Given as goal

abbrev pub invariant-loop-i : goal.invariant-loop-i
invariant-loop-i l = record {
  len : length l.chains ≡ chain_count l.ots;
  room : (k : ℕ) (d : OpenChain) → k < l.i → HasRoom (slice_index_or l.chains k d);
  each : (k : ℕ) (d : OpenChain) → k < l.i → slice_index_or l.chains k d ≡ from_signature l.ots l.id l.q l.text l.ys k;
}
