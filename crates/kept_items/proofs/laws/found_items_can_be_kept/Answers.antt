use Rattle.kept_items.proofs.Found.{can_be_kept}
use Rattle.kept_items.proofs.laws.found_items_can_be_kept.Goals as goal

pub returns : goal.returns
returns c = can_be_kept
