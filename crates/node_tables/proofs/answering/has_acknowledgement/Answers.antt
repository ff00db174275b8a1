use Rattle.node_tables.proofs.Answerers.{segment_unacknowledged}
use Rattle.node_tables.proofs.answering.has_acknowledgement.Goals as goal

pub returns-in_default : goal.returns-in_default
returns-in_default g c = ((λ h. absurd cc), (λ h. absurd (segment_unacknowledged c.args.items.now c.args.challenge.now.item.fields c.in_default.ensures.none h)))
