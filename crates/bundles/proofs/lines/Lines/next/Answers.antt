use Rattle.bundles.proofs.Sentences.{next_is}
use Rattle.bundles.proofs.lines.Lines.next.Goals as goal

pub returns-in-Some : goal.returns-in-Some
returns-in-Some c = rw (← c.self.view_is) (next_is c.self.inside.rest.now c.in-Some.line.now c.in-Some.rest.now c.self.inside.number c.in-Some.ensures.line)
