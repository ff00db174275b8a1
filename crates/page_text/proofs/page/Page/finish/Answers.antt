use Rattle.page_text.proofs.Whole.{page_at}
use Rattle.page_text.proofs.page.Page.finish.Goals as goal

pub returns-then-is_whole-clause-whole : goal.returns-then-is_whole-clause-whole
returns-then-is_whole-clause-whole c = page_at c.self.inside.has_head c.self.inside.place c.self.inside.bytes.items c.self.invariant (c.is_whole.ensures c.if-is_whole.true)
