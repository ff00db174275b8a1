use Rattle.std.proofs.Common.{◌∙◌}
use Rattle.kept_evidence.proofs.Answered.{audit_answered}
use Rattle.plain_store.proofs.suspicion.audit_is_answered.Goals as goal

pub returns : goal.returns
returns g c = c.one_answers_audit.ensures ∙ audit_answered c.args.challenge.now c.args.kept.now c.group_of.result.now c.group_of.ensures.members

pub one_answers_audit-requires : goal.one_answers_audit-requires
one_answers_audit-requires g c = λ k has. c.requires.hashes k ((c.group_of.ensures.members k).0 has).0
