use Rattle.std.proofs.Common.{refl, sym, ◌∙◌}
use Rattle.node_tables.proofs.Received.{receipt_step, receipt_still, told_receipts}
use Rattle.node_tables.proofs.quoting.put_receipt.Goals as goal

pub returns-in-Some-clause-told : goal.returns-in-Some-clause-told
returns-in-Some-clause-told g c =
    let t = c.args.table.now in
    told_receipts c.args.items.now t (record { node = t.node; rows = t.rows; receipts = c.put.new.receipts; spans = t.spans; unanswered = t.unanswered; hashes = t.hashes; exposure = t.exposure; promised = t.promised; bodies = t.bodies })
    refl refl refl refl c.put.ensures.ascending c.requires.told

pub returns-in-Some-clause-step : goal.returns-in-Some-clause-step
returns-in-Some-clause-step g c =
    let t = c.args.table.now in
    receipt_step c.args.items.now c.args.row t (record { node = t.node; rows = t.rows; receipts = c.put.new.receipts; spans = t.spans; unanswered = t.unanswered; hashes = t.hashes; exposure = t.exposure; promised = t.promised; bodies = t.bodies })
    c.in-Some.sending (sym c.receipt_at.ensures ∙ c.in-Some.is) c.requires.own refl refl refl refl refl c.put.ensures.come

pub returns-in_default-clause-step : goal.returns-in_default-clause-step
returns-in_default-clause-step g c = receipt_still c.args.items.now c.args.row c.args.table.now (sym c.receipt_at.ensures ∙ c.in_default.is)
