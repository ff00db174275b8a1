use Rattle.std.proofs.Common.{◌∙◌, Result, inr, subst, sym}
use Rattle.std.proofs.lemmas.Result.{err_from_is_err_and}
use Rattle.outcome.specs.Outcome.{Fails}
use Rattle.scenarios.specs.declared.fault.ScenarioFault.{ScenarioFault}
use Rattle.scenarios.specs.declared.fault.ScenarioFault.TheVariants.{Memory}
use Rattle.scenarios.specs.Scenarios.{Script, lines_of}
use Rattle.scenarios.proofs.LineSteps.{gives, readable, script_fails, script_is, unreadable}
use Rattle.scenarios.proofs.scenario.Scenario.read.Goals as goal

pub returns-then-not-is_readable : goal.returns-then-not-is_readable
returns-then-not-is_readable c = inr (unreadable c.args.text.now (sym c.is_readable.ensures ∙ c.if-not-is_readable.true))

pub returns-in_err-draft : goal.returns-in_err-draft
returns-in_err-draft c =
    let p = err_from_is_err_and c.from_residual.result c.from_residual.ensures.1 in
    let fault = c.in_err-draft.field-0.0 in
    let all = readable c.args.text.now (sym c.is_readable.ensures ∙ c.if-not-is_readable.false) in
    let fails = script_fails (lines_of c.args.text.now) fault c.in_err-draft.ensures in
    rw (p.1, p.2) (subst (λ (r : Result Script ScenarioFault). Fails Memory fault r) (sym all) fails)

pub returns : goal.returns
returns c =
    let all = readable c.args.text.now (sym c.is_readable.ensures ∙ c.if-not-is_readable.false) in
    gives _ _ (all ∙ script_is (lines_of c.args.text.now) c.in_ok-draft.draft c.in_ok-draft.ensures ∙ sym c.completed.ensures)
