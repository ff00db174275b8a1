use Rattle.std.proofs.lemmas.Result.{err_from_is_err_and}
use Rattle.explanations.proofs.convicting.explain_proof.Goals as goal

pub returns-in_err-node-clause-only : goal.returns-in_err-node-clause-only
returns-in_err-node-clause-only g c = λ node convicted.
    let p = err_from_is_err_and c.from_residual.result c.from_residual.ensures.1 in
    rw (p.1, p.2) (c.in_err-node.ensures.only node convicted)
