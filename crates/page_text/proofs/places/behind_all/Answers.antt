use Rattle.page_text.proofs.Whole.{one_more}
use Rattle.page_text.proofs.places.behind_all.Goals as goal

pub loop-piece-preserved : goal.loop-piece-preserved
loop-piece-preserved c = one_more c.args.place c.loop-piece.here c.next_of-here.result c.args.pieces.now c.loop-piece.piece-index _ c.loop-piece.invariant c.loop-piece-test.true c.next_of-here.ensures
