use Rattle.log_chain.proofs.Chains.{Rising-front, Rising-back}
use Rattle.log_chain.proofs.laws.parts_rise.Goals as goal

pub returns : goal.returns
returns c = λ front back h. (Rising-front front back h, Rising-back front back h)
