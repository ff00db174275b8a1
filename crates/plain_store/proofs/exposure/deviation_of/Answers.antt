use Rattle.plain_store.proofs.Singled.{deviates_nowhere, is_deviation, on_none, on_some}
use Rattle.plain_store.proofs.exposure.deviation_of.Goals as goal

pub returns-clause-none : goal.returns-clause-none
returns-clause-none g c =
    on_none c.deviating.result _ _ _ c.deviating.ensures (deviates_nowhere c.args.node c.args.kept.now c.group_of.result.now c.group_of.ensures.members)

pub returns-clause-some : goal.returns-clause-some
returns-clause-some g c =
    on_some c.deviating.result _ _ _ c.deviating.ensures
    (λ d h. is_deviation c.args.node c.args.kept.now c.group_of.result.now c.group_of.ensures.members d.now h.0 h.1)
