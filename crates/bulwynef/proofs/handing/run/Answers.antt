use Rattle.std.proofs.lemmas.Result.{err_from_is_err_and}
use Rattle.bulwynef.proofs.handing.run.Goals as goal

pub returns-in_err-text-clause-read_failed : goal.returns-in_err-text-clause-read_failed
returns-in_err-text-clause-read_failed g c =
    let p = err_from_is_err_and c.from_residual.result c.from_residual.ensures.1 in
    rw (p.1, p.2) c.in_err-text.ensures.read_failed
