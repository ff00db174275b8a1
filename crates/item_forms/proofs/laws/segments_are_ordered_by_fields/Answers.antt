use Rattle.item_forms.proofs.ItemOrders.{segments_ordered}
use Rattle.item_forms.proofs.laws.segments_are_ordered_by_fields.Goals as goal

pub returns : goal.returns
returns c = segments_ordered
