use Rattle.std.proofs.Common.{[], ◌∷◌}
use Rattle.log_chain.proofs.Chains.{chain_end-append}
use Rattle.log_chain.proofs.laws.chains_grow.Goals as goal

pub returns : goal.returns
returns c = λ prev es e. chain_end-append prev es (e ∷ [])
