use Rattle.std.proofs.Common.{◌≡◌, ◌-◌, refl, sym, ◌∙◌, arith, rules}
use Rattle.node_tables.proofs.Received.{statement_step}
use Rattle.node_tables.proofs.Stepping.{taken_back}
use Rattle.node_tables.proofs.telling.put_statement.Goals as goal

pub returns : goal.returns
returns g c =
    let t = c.args.table.now in
    let u = c.put_row.new.table in
    let v = c.put_receipt.new.table in
    let less : c.saturating_sub-table.result ≡ t.promised - 1 = omega arith in
    record {
      told = search rules;
      step = statement_step c.args.items.now c.args.row t u v _ c.put_row.ensures.step c.put_receipt.ensures.step c.requires.there c.requires.own refl refl refl refl refl refl;
      back = taken_back c.args.items.now c.args.row t _ c.requires.there c.requires.own (c.put_receipt.ensures.step.node ∙ c.put_row.ensures.step.node) less (c.put_receipt.ensures.counts.bodies ∙ c.put_row.ensures.counts.bodies);
    }

pub put_receipt-requires-clause-own : goal.put_receipt-requires-clause-own
put_receipt-requires-clause-own g c = λ a is. c.requires.own a is ∙ sym c.put_row.ensures.step.node
