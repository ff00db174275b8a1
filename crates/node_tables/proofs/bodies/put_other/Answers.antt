use Rattle.std.proofs.Common.{sym, ap, ◌∙◌}
use Rattle.item_forms.specs.Forms.{shown}
use Rattle.node_tables.proofs.Bodied.{ack_here}
use Rattle.node_tables.proofs.bodies.put_other.Goals as goal

pub put_acknowledgement-requires-clause-here : goal.put_acknowledgement-requires-clause-here
put_acknowledgement-requires-clause-here g c =
    ack_here c.args.items.now c.args.place c.args.kept.now c.in-Ack.field-0.now c.requires.to_put.here
    (sym c.requires.form ∙ ap shown c.in-Ack.is)
