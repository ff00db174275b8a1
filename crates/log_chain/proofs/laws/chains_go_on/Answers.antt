use Rattle.log_chain.proofs.Chains.{chain_end-append, hashes-append}
use Rattle.log_chain.proofs.laws.chains_go_on.Goals as goal

pub returns : goal.returns
returns c = λ prev front back. (chain_end-append prev front back, hashes-append prev front back)
