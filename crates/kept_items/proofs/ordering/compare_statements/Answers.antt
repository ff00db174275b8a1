use Rattle.std.proofs.Common.{◌∙◌}
use Rattle.kept_items.proofs.Orders.{statements_ordered}
use Rattle.kept_items.proofs.ordering.compare_statements.Goals as goal

pub returns : goal.returns
returns c = c.compare_fields.ensures ∙ statements_ordered c.args.a.now.item c.args.b.now.item c.auth.result.now c.auth-2.result.now c.auth.ensures.fields c.auth-2.ensures.fields
