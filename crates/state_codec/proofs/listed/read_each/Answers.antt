use Rattle.std.proofs.Common.{arith}
use Rattle.std.proofs.lemmas.Result.{err_from_is_err_and}
use Rattle.std.proofs.lemmas.Grind.{common_steps}
use Rattle.log_chain.specs.Fields.{parts_at}
use Rattle.log_chain.proofs.PartsLoop.{goes_on, stops, is_done}
use Rattle.state_codec.specs.declared.fault.CodeFault.TheVariants.{Memory}
use Rattle.state_codec.proofs.listed.read_each.Goals as goal

pub returns-in_err-item-clause-items : goal.returns-in_err-item-clause-items
returns-in_err-item-clause-items g c =
    let at = g.T.Coded.coding.at in
    let p = err_from_is_err_and c.from_residual.result c.from_residual.ensures.1 in
    let total = parts_at at c.args.count c.args.reader.now in
    rw (p.1, p.2) (stops Memory c.in_err-item.field-0.0 at c.loop.items.items c.args.count c.loop.counter c.loop.reader total c.loop-test.true c.in_err-item.ensures c.loop.invariant.whole)

pub loop-preserved : goal.loop-preserved
loop-preserved g c =
    let at = g.T.Coded.coding.at in
    let total = parts_at at c.args.count c.args.reader.now in
    record {
      whole = rw c.in_ok-push.ensures.items (goes_on at c.loop.items.items c.args.count c.loop.counter c.loop.reader c.in_ok-item.item c.read.new.reader total c.loop-test.true c.in_ok-item.ensures c.loop.invariant.whole);
      count = grind (arith, common_steps);
    }

pub returns-clause-items : goal.returns-clause-items
returns-clause-items g c =
    let at = g.T.Coded.coding.at in
    let total = parts_at at c.args.count c.args.reader.now in
    is_done at c.loop.items.items c.args.count c.loop.counter c.loop.reader total c.loop-test.false c.loop.invariant.whole
