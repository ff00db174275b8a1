use Rattle.std.proofs.lemmas.Result.{err_from_is_err_and}
use Rattle.commands.proofs.Refused.{proof_own, reading_own}
use Rattle.operating.proofs.check.convicted_by.Goals as goal

pub returns-in_err-proof-clause-own : goal.returns-in_err-proof-clause-own
returns-in_err-proof-clause-own g c =
    let p = err_from_is_err_and c.from_residual.result c.from_residual.ensures.1 in
    rw (p.1, p.2) (reading_own c.in_err-proof.field-0.0)

pub returns-in_err-node-clause-own : goal.returns-in_err-node-clause-own
returns-in_err-node-clause-own g c =
    let p = err_from_is_err_and c.from_residual-in_err-node.result c.from_residual-in_err-node.ensures.1 in
    rw (p.1, p.2) (proof_own c.in_err-node.field-0.0)
