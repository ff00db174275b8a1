use Rattle.std.proofs.Common.{◌≡◌, [], ◌∷◌, List, All, ap, arith, rules, subst}
use Rattle.shared_stores.specs.Closing.{Agrees}
use Rattle.shared_stores.specs.Histories.{Notes}
use Rattle.scenario_run.proofs.Numbered.{closed_with_both}
use Rattle.scenario_run.proofs.closing.close.Goals as goal

pub returns-in-Ok-clause-agrees : goal.returns-in-Ok-clause-agrees
returns-in-Ok-clause-agrees g c ds opened =
    let passes : c.push-2.new.self.items ≡ c.args.first ∷ c.args.second ∷ [] = search rules in
    let all = subst (λ (l : List Notes). All (Agrees c.in-Ok.closed.history.items) l) passes c.in-Ok.ensures.agree.agree in
    all 1 c.args.second (omega arith)

pub returns-in-Err-clause-told : goal.returns-in-Err-clause-told
returns-in-Err-clause-told g c ds opened one two =
    let passes : c.push-2.new.self.items ≡ c.args.first ∷ c.args.second ∷ [] = search rules in
    closed_with_both c.in-Err.refused.fault _ _ c.args.first c.args.second (ap (λ s. s.callers) opened) passes one two c.in-Err.ensures.fault
