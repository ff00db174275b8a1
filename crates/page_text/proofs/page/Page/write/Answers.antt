use Rattle.std.proofs.Common.{sym, ◌∙◌}
use Rattle.page_text.proofs.Whole.{more_at}
use Rattle.page_text.proofs.page.Page.write.Goals as goal

pub invariant_of-self-2 : goal.invariant_of-self-2
invariant_of-self-2 c = λ place stands.
    more_at c.self.inside.has_head c.self.inside.place c.self.inside.bytes.items c.put_all.new.page.items c.args.pieces.now place c.self.invariant
    c.in_ok-put_all.ensures (sym c.behind_all-self-inside.ensures ∙ stands)
