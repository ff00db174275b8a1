use Rattle.plain_store.proofs.Singled.{is_denial, on_none, on_some, undenied}
use Rattle.plain_store.proofs.exposure.denial_of.Goals as goal

pub returns-clause-none : goal.returns-clause-none
returns-clause-none g c =
    on_none c.first_denial.result _ _ _ c.first_denial.ensures
    (undenied c.args.node c.args.kept.now c.group_of.result.now c.group_of.ensures.members c.args.held.now c.of_node.result.now c.of_node.ensures)

pub returns-clause-some : goal.returns-clause-some
returns-clause-some g c =
    on_some c.first_denial.result _ _ _ c.first_denial.ensures
    (λ d h. is_denial c.args.node c.args.kept.now c.group_of.result.now c.group_of.ensures.members c.args.held.now c.of_node.result.now c.of_node.ensures d.statement.now d.segment.now h.0 h.1 h.2)

pub first_denial-requires : goal.first_denial-requires
first_denial-requires g c = λ k has. c.requires.hashes k ((c.group_of.ensures.members k).0 has).0
