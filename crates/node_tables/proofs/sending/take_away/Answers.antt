use Rattle.std.proofs.Common.{ap, arith, ◌∙◌}
use Rattle.std.specs.List.{remove}
use Rattle.node_tables.proofs.Taken.{cut_more}
use Rattle.node_tables.proofs.sending.take_away.Goals as goal

pub loop-gone-preserved : goal.loop-gone-preserved
loop-gone-preserved c =
    let s = c.args.near.start in
    let before = c.loop-gone.invariant in
    record {
      items = c.remove.ensures.items ∙ ap (λ l. remove l s) before.items ∙ cut_more c.args.places.now.items s c.loop-gone.gone (omega (arith, c.loop-gone-test.true, c.loop-gone.auto.gone-end, c.requires.order, c.requires.inside));
      room = omega (arith, before.room, c.remove.ensures.room);
    }
