use Rattle.std.proofs.Common.{subst}
use Rattle.log_chain.specs.Fields.{bytes_text}
use Rattle.item_forms.specs.Spelling.{spelling}
use Rattle.evidence.specs.within.Pieces.{Sends}
use Rattle.evidence.proofs.Sent.{one_more, sent_more}
use Rattle.evidence.proofs.writing.add_each.Goals as goal

pub loop-x-preserved : goal.loop-x-preserved
loop-x-preserved g c =
    subst (Sends (g.W.Write.contents c.args.writer.now) (g.W.Write.contents c.add.new.writer) c.in_ok-gathered.gathered)
    (one_more (λ x. bytes_text (spelling (g.T.HasItem.piece x).fields)) c.args.front c.args.items.now c.loop-x.x-index c.x-item.result c.loop-x-test.true c.x-item.is)
    (sent_more _ (g.W.Write.contents c.loop-x.writer) _ c.loop-x.gathered _ _ (bytes_text (spelling (g.T.HasItem.piece c.x-item.result).fields)) c.loop-x.invariant c.in_ok-gathered.ensures)
