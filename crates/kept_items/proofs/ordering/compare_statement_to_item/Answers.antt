use Rattle.std.proofs.Common.{◌∙◌, ap, sym}
use Rattle.item_forms.specs.Forms.{shown}
use Rattle.kept_items.proofs.Orders.{statements_ordered}
use Rattle.kept_items.proofs.ordering.compare_statement_to_item.Goals as goal

pub returns-in-Auth : goal.returns-in-Auth
returns-in-Auth c =
    c.compare_fields.ensures
    ∙ statements_ordered c.args.statement.now.item c.args.item.now c.auth-auth.result.now c.in-Auth.other.now c.auth-auth.ensures.fields (sym c.form.ensures ∙ ap shown c.in-Auth.is)
