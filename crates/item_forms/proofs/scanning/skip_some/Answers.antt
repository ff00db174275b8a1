use Rattle.std.proofs.Common.{◌∷◌, ◌++◌, []}
use Rattle.std.proofs.lemmas.Result.{err_from_is_err_and}
use Rattle.log_chain.specs.Fields.{parts_at}
use Rattle.log_chain.proofs.PartsLoop.{goes_on, is_done}
use Rattle.item_forms.specs.Reading.{entry_at}
use Rattle.item_forms.proofs.Skipped.{stops_at}
use Rattle.item_forms.proofs.scanning.skip_some.Goals as goal

pub returns-in_err-skip_entry-clause-skips : goal.returns-in_err-skip_entry-clause-skips
returns-in_err-skip_entry-clause-skips c =
    let p = err_from_is_err_and c.from_residual.result c.from_residual.ensures.1 in
    let total = parts_at entry_at c.args.count c.args.reader.now in
    rw (p.1, p.2) (stops_at c.in_err-skip_entry.field-0.0 entry_at c.loop.invariant.0 c.args.count c.loop.counter c.loop.reader total c.loop-test.true c.in_err-skip_entry.ensures.skips c.loop.invariant.1)

pub loop-preserved : goal.loop-preserved
loop-preserved c =
    let total = parts_at entry_at c.args.count c.args.reader.now in
    let entry = c.in_ok-skip_entry.ensures.skips.0 in
    (c.loop.invariant.0 ++ entry ∷ [], goes_on entry_at c.loop.invariant.0 c.args.count c.loop.counter c.loop.reader entry c.skip_entry.new.reader total c.loop-test.true c.in_ok-skip_entry.ensures.skips.1 c.loop.invariant.1)

pub returns-clause-skips : goal.returns-clause-skips
returns-clause-skips c =
    let total = parts_at entry_at c.args.count c.args.reader.now in
    (c.loop.invariant.0, is_done entry_at c.loop.invariant.0 c.args.count c.loop.counter c.loop.reader total c.loop-test.false c.loop.invariant.1)
