use Rattle.explanation_pages.specs.Shown.{entry_text}
use Rattle.explanation_pages.proofs.Listed.{one_more}
use Rattle.explanation_pages.proofs.index.write_entries.Goals as goal

pub loop-told-preserved : goal.loop-told-preserved
loop-told-preserved c =
    one_more entry_text c.args.page.now c.loop-told.page c.write_entry.new.page c.args.nodes.now c.loop-told.told-index c.told-item.result c.loop-told.invariant c.loop-told-test.true c.told-item.is c.in_ok-write_entry.ensures
