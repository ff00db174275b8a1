use Rattle.std.proofs.Common.{◌∙◌, ap, sym}
use Rattle.item_forms.specs.Forms.{shown}
use Rattle.kept_items.proofs.Orders.{statements_ordered}
use Rattle.kept_items.proofs.ordering.compare_to_statement.Goals as goal

pub returns-in-Auth : goal.returns-in-Auth
returns-in-Auth c =
    c.compare_fields.ensures
    ∙ statements_ordered c.args.item.now c.args.statement.now.item c.in-Auth.other.now c.auth-auth.result.now (sym c.form.ensures ∙ ap shown c.in-Auth.is) c.auth-auth.ensures.fields
