use Rattle.std.proofs.Common.{false, refl, arith}
use Rattle.journal.specs.Journal.{recovered}
use Rattle.std.proofs.lemmas.Result.{err_from_is_err_and}
use Rattle.durable_store.proofs.Found.{few}
use Rattle.durable_store.proofs.finding.next_items.Goals as goal

pub returns-in_err-items-clause-shown : goal.returns-in_err-items-clause-shown
returns-in_err-items-clause-shown g c =
    let p = err_from_is_err_and c.from_residual.result c.from_residual.ensures.1 in
    rw (p.1, p.2) (λ ds basis. record { is_all = false; texts = recovered (g.D.Device.found c.args.reading.now.device); are_found = refl; show = tt })

pub overflow_add-before : goal.overflow_add-before
overflow_add-before g c =
    let least = few g.D.Device.found c.args.reading.now c.requires.0 in
    omega (arith, least, c.requires.2, c.requires.0.small, c.loop-n-test.true)

pub returns-in_default-clause-place : goal.returns-in_default-clause-place
returns-in_default-clause-place g c =
    let least = few g.D.Device.found c.args.reading.now c.requires.0 in
    omega (arith, least, c.requires.2, c.requires.0.small, c.loop-n-test.true, c.loop-n.invariant.count)

pub returns-clause-place : goal.returns-clause-place
returns-clause-place g c =
    let least = few g.D.Device.found c.args.reading.now c.requires.0 in
    omega (arith, least, c.requires.2, c.requires.0.small, c.loop-n-test.false, c.loop-n.auto.n-end, c.loop-n.invariant.count)
