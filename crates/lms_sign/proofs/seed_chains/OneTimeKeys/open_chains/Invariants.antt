use Rattle.std.proofs.Common.{◌≡◌, ℕ, ◌+◌, ◌/◌, ◌%◌, ◌<◌, length, slice_index_or}
use Rattle.lms_sign.specs.declared.open_chain.OpenChain.{OpenChain}
use Rattle.lms_sign.specs.Parameters.{chain_count}
use Rattle.lms_sign.specs.within.OpenChains.{from_seed}
use Rattle.lms_sign.proofs.seed_chains.OneTimeKeys.open_chains.Given as goal

abbrev pub invariant-loop-k : goal.invariant-loop-k
invariant-loop-k l = (length l.chains ≡ length l.initial.chains)
    × ((k : ℕ) (d : OpenChain) → k < l.k → slice_index_or l.chains k d ≡ from_seed l.self.id l.self.seed (l.q + k / chain_count l.self.ots_type) (k % chain_count l.self.ots_type))
