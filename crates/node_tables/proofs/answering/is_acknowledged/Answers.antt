use Rattle.std.proofs.Common.{sym, subst}
use Rattle.std.specs.Prelude.{◌↔◌, IsTrue}
use Rattle.node_tables.specs.Places.{IsAcknowledged}
use Rattle.node_tables.proofs.Acknowledged.{acknowledged_is}
use Rattle.node_tables.proofs.answering.is_acknowledged.Goals as goal

pub returns : goal.returns
returns g c =
    subst (λ b. IsTrue b ↔ IsAcknowledged c.args.items.now c.args.message.now) (sym c.is_ok.ensures.value)
    (acknowledged_is c.args.items.now c.args.order.now.items c.requires c.args.message.now c.search.result c.search.ensures.bound c.search.ensures.position)
