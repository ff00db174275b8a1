use Rattle.std.proofs.Common.{◌∙◌, Result, ap, subst, sym}
use Rattle.std.proofs.lemmas.Result.{err_from_is_err_and}
use Rattle.outcome.specs.Outcome.{Fails}
use Rattle.scenarios.specs.declared.fault.ScenarioFault.{ScenarioFault}
use Rattle.scenarios.specs.declared.fault.ScenarioFault.TheVariants.{Memory}
use Rattle.scenarios.specs.Scenarios.{Draft, lines_of, lines_taken}
use Rattle.scenarios.proofs.LineSteps.{lines_end, lines_fail, lines_go}
use Rattle.scenarios.proofs.draft.Draft.read.Goals as goal

pub returns-in_err-take_line : goal.returns-in_err-take_line
returns-in_err-take_line c =
    let p = err_from_is_err_and c.from_residual.result c.from_residual.ensures.1 in
    let fault = c.in_err-take_line.field-0.0 in
    let all = c.loop-line.invariant ∙ ap (lines_taken c.loop-line.draft) c.in-Some.ensures.line in
    let fails = lines_fail c.loop-line.draft c.in-Some.line.now (lines_of c.in-Some.more.now) fault c.in_err-take_line.ensures.refused in
    rw (p.1, p.2) (subst (λ (r : Result Draft ScenarioFault). Fails Memory fault r) (sym all) fails)

pub loop-line-preserved : goal.loop-line-preserved
loop-line-preserved c =
    let step = lines_go c.loop-line.draft c.take_line.new.self c.in-Some.line.now (lines_of c.in-Some.more.now) c.in_ok-take_line.ensures.done in
    c.loop-line.invariant ∙ ap (lines_taken c.loop-line.draft) c.in-Some.ensures.line ∙ step

pub returns : goal.returns
returns c = c.loop-line.invariant ∙ ap (lines_taken c.loop-line.draft) c.in_default.ensures.line ∙ lines_end c.loop-line.draft
