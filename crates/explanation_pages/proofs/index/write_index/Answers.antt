use Rattle.explanation_pages.proofs.Listed.{listed}
use Rattle.explanation_pages.proofs.index.write_index.Goals as goal

pub returns : goal.returns
returns c = listed c.args.page.now c.begin_index.new.page c.write_entries.new.page c.end_index.new.page c.args.nodes.now c.in_ok-begin_index.ensures c.in_ok-write_entries.ensures c.in_ok-end_index.ensures
