use Rattle.std.proofs.Common.{◌∙◌, sym}
use Rattle.std.proofs.lemmas.Bool.{eqb-true}
use Rattle.scenarios.proofs.Parts.{line_and_more, no_lines, one_line}
use Rattle.scenarios.proofs.lines.first_line.Goals as goal

pub returns-then-is_empty-clause-line : goal.returns-then-is_empty-clause-line
returns-then-is_empty-clause-line c = no_lines c.args.text.now (eqb-true _ _ (sym c.is_empty.ensures ∙ c.if-is_empty.true))

pub returns-in-Some-clause-line : goal.returns-in-Some-clause-line
returns-in-Some-clause-line c = line_and_more c.args.text.now c.cut.result.0.now c.in-Some.rest.now (rw c.in-Some.is at c.cut.ensures.parts)

pub returns-in-None-clause-line : goal.returns-in-None-clause-line
returns-in-None-clause-line c =
    one_line c.args.text.now c.cut.result.0.now (sym c.is_empty.ensures ∙ c.if-is_empty.false)
    (rw c.in-None.is at c.cut.ensures.whole) (rw c.in-None.is at c.cut.ensures.parts)
