use Rattle.std.proofs.Common.{◌∙◌, Err, ap, sym}
use Rattle.bundles.proofs.Endings.{left_over}
use Rattle.bundles.proofs.lines.Lines.end.Goals as goal

pub returns-else-is_empty : goal.returns-else-is_empty
returns-else-is_empty c = ap Err c.refusal.ensures ∙ rw (← c.self.view_is) (sym (left_over c.self.inside.number c.self.inside.rest.now (sym c.is_empty.ensures ∙ c.if-is_empty.false)))
