use Rattle.std.proofs.Common.{◌∙◌, sym}
use Rattle.bundles.specs.Grammar.{greets}
use Rattle.bundles.proofs.Steps.{greets_none, greets_some, no_line, says_none, says_some}
use Rattle.bundles.proofs.form.greeted.Goals as goal

pub returns-in_default : goal.returns-in_default
returns-in_default c = no_line greets c.args.at.now c.refusal.result (c.in_default.ensures, c.refusal.ensures)

pub returns-then-not-is_first_line : goal.returns-then-not-is_first_line
returns-then-not-is_first_line c =
    says_none greets c.args.at.now c.in-Some.behind c.in-Some.line.now c.refusal-then-not-is_first_line.result c.in-Some.ensures
    (greets_none c.in-Some.line.now (sym c.is_first_line.ensures ∙ c.if-not-is_first_line.true)) c.refusal-then-not-is_first_line.ensures

pub returns : goal.returns
returns c =
    says_some greets c.args.at.now c.in-Some.behind c.in-Some.line.now _ c.in-Some.ensures
    (greets_some c.in-Some.line.now (sym c.is_first_line.ensures ∙ c.if-not-is_first_line.false))
