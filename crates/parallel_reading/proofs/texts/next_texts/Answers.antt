use Rattle.std.proofs.Common.{◌≡◌, ◌∙◌, ◌-◌, inr, suc, ap, arith}
use Rattle.std.proofs.lemmas.Result.{err_from_is_err_and}
use Rattle.containers.specs.Rest.{rest_of}
use Rattle.parallel_reading.proofs.texts.next_texts.Goals as goal

pub returns-in_err-first-clause-refused : goal.returns-in_err-first-clause-refused
returns-in_err-first-clause-refused c =
    let p = err_from_is_err_and c.from_residual.result c.from_residual.ensures.1 in
    let some = c.requires in
    let one : c.args.left ≡ suc (c.args.left - 1) = omega (arith, some) in
    rw (p.1, p.2) (λ reads before count. inr (ap (λ n. rest_of reads n c.args.last.now before c.args.reader.now) one ∙ c.in_err-first.ensures.refused reads (c.args.left - 1) c.args.last.now before count))
