use Rattle.std.proofs.Common.{ap, sym, ◌∙◌}
use Rattle.item_forms.specs.Pieces.{Piece}
use Rattle.kept_items.proofs.Made.{one_checked}
use Rattle.kept_items.proofs.statement.KeptStatement.from_checked.Goals as goal

pub returns : goal.returns
returns g c =
    one_checked _ c.args.checked
    (sym c.in-Auth.is ∙ c.into_fields.ensures.fields ∙ ap (λ (p : Piece). p.fields) c.into_item.ensures)
    (sym c.requires.unjudged)
    (sym c.requires.unfound)
