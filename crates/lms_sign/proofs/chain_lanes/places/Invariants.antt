use Rattle.std.proofs.Common.{◌≡◌, ℕ, ◌<◌, length, slice_index_or, []}
use Rattle.lms_sign.specs.declared.open_chain.OpenChain.{OpenChain}
use Rattle.lms_sign.proofs.chain_lanes.places.Given as goal

abbrev pub invariant-loop-l : goal.invariant-loop-l
invariant-loop-l l = (length l.places ≡ 8) × ((k : ℕ) (d : OpenChain) → k < l.l → slice_index_or l.places k [] ≡ (slice_index_or l.fn.runs k d).place)
