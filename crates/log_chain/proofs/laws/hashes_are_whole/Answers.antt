use Rattle.sha2.proofs.Facts256.{length-sha256}
use Rattle.log_chain.specs.Chain.{entry_text}
use Rattle.log_chain.proofs.Chains.{length-chain_end, length-hashes}
use Rattle.log_chain.proofs.laws.hashes_are_whole.Goals as goal

pub returns : goal.returns
returns c = λ prev es. (λ e. length-sha256 (entry_text prev e), length-chain_end prev es, length-hashes prev es)
