use Rattle.explanation_pages.proofs.Listed.{grown}
use Rattle.explanation_pages.proofs.index.begin_index.Goals as goal

pub returns : goal.returns
returns c = grown c.args.page.now c.begin_section.new.page c.begin_list.new.page c.in_ok-begin_section.ensures c.in_ok-begin_list.ensures
