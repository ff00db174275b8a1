use Rattle.std.proofs.lemmas.Result.{err_from_is_err_and}
use Rattle.containers.proofs.CheckedLists.{reading_memory}
use Rattle.containers.proofs.decoding.decoded_item.Goals as goal

pub returns-in_err-item-clause-memory : goal.returns-in_err-item-clause-memory
returns-in_err-item-clause-memory c =
    let p = err_from_is_err_and c.from_residual.result c.from_residual.ensures.1 in
    rw p.1 (λ memory. c.in_err-item.ensures.told (reading_memory c.in_err-item.field-0.0 p.0 p.2 memory))
