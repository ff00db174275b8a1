use Rattle.log_chain.proofs.Rises.{Rising-push}
use Rattle.log_chain.proofs.laws.rising_lists_grow.Goals as goal

pub returns : goal.returns
returns c = Rising-push
