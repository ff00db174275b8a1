use Rattle.std.proofs.Common.{subst, sym}
use Rattle.std.specs.Prelude.{◌↔◌, IsTrue}
use Rattle.std.specs.List.{Contains}
use Rattle.node_tables.proofs.Received.{found_is}
use Rattle.node_tables.proofs.quoting.is_among.Goals as goal

pub returns : goal.returns
returns c =
    subst (λ b. IsTrue b ↔ Contains c.args.receipts.now.items c.args.sending.now) (sym c.is_ok.ensures.value)
    (found_is c.args.receipts.now.items c.args.sending.now c.requires c.gap_among.result c.gap_among.ensures.bound c.gap_among.ensures.position)
