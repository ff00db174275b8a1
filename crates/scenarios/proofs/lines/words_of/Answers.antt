use Rattle.outcome.proofs.Cuts.{some_parts}
use Rattle.scenarios.proofs.Parts.{too_many}
use Rattle.scenarios.proofs.lines.words_of.Goals as goal

pub returns-in_default-Some : goal.returns-in_default-Some
returns-in_default-Some c =
    let one = rw c.in_ok-rest.was at c.cut.ensures.parts in
    let two = rw c.in-Some.is at c.cut-2.ensures.parts in
    let three = rw c.in_default-Some.is-1 at c.cut-3.ensures.parts in
    rw (one, two, three) (too_many _ _ _ _ (some_parts _ c.in_default-Some.field-0-1.now))
