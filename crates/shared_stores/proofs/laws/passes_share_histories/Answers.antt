use Rattle.shared_stores.proofs.Sharing.{share}
use Rattle.shared_stores.proofs.laws.passes_share_histories.Goals as goal

pub returns : goal.returns
returns c = share
