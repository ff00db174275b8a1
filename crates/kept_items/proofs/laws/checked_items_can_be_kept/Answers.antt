use Rattle.kept_items.proofs.Found.{checked_can_be_kept}
use Rattle.kept_items.proofs.laws.checked_items_can_be_kept.Goals as goal

pub returns : goal.returns
returns c = checked_can_be_kept
