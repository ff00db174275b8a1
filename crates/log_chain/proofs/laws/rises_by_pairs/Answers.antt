use Rattle.log_chain.proofs.Rises.{pairs_rise, rising_pairs}
use Rattle.log_chain.proofs.laws.rises_by_pairs.Goals as goal

pub returns : goal.returns
returns c = λ es. (rising_pairs es, pairs_rise es)
