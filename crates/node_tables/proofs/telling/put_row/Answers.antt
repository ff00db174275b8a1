use Rattle.std.proofs.Common.{refl, subst, sym, ap, ◌∙◌}
use Rattle.std.specs.Option.{option_map}
use Rattle.kept_items.specs.Positions.{shown}
use Rattle.node_tables.specs.Tables.{AreSpans}
use Rattle.node_tables.proofs.Told.{step_of_said, told_more, step_more}
use Rattle.node_tables.proofs.Again.{told_quiet}
use Rattle.node_tables.proofs.telling.put_row.Goals as goal

pub returns-in_default-place_of-clause-step : goal.returns-in_default-place_of-clause-step
returns-in_default-place_of-clause-step g c =
    step_of_said c.args.items.now c.args.row c.args.table.now c.requires.told (shown c.in-Some.said) (sym c.said_at.ensures ∙ ap (option_map shown) c.in-Some.is) c.in_default-place_of.field-0
    c.in_default-place_of.ensures.bound c.in_default-place_of.ensures.position

pub exposure_with-exposure-requires-clause-spans : goal.exposure_with-exposure-requires-clause-spans
exposure_with-exposure-requires-clause-spans g c =
    let t = c.args.table.now in
    let own = c.requires.own (shown c.in-Some.said) (sym c.said_at.ensures ∙ ap (option_map shown) c.in-Some.is) in
    subst (λ n. AreSpans c.args.items.now n t.spans.items) (sym own) c.requires.told.spans

pub returns-clause-told : goal.returns-clause-told
returns-clause-told g c =
    let a = shown c.in-Some.said in
    let t = c.args.table.now in
    let is = sym c.said_at.ensures ∙ ap (option_map shown) c.in-Some.is in
    told_more c.args.items.now c.args.row t c.requires.told a is (c.requires.own a is) c.in-Err.place c.in-Err.ensures.bound c.in-Err.ensures.position
    (record { node = t.node; rows = c.insert.new.self; receipts = t.receipts; spans = t.spans; unanswered = t.unanswered; hashes = t.hashes; exposure = c.exposure_with-exposure.result; promised = t.promised; bodies = t.bodies })
    refl c.insert.ensures.items refl refl c.exposure_with-exposure.ensures

pub returns-clause-step : goal.returns-clause-step
returns-clause-step g c =
    let a = shown c.in-Some.said in
    let t = c.args.table.now in
    let is = sym c.said_at.ensures ∙ ap (option_map shown) c.in-Some.is in
    step_more c.args.items.now c.args.row t c.requires.told a is (c.requires.own a is) c.in-Err.place c.in-Err.ensures.bound c.in-Err.ensures.position
    (record { node = t.node; rows = c.insert.new.self; receipts = t.receipts; spans = t.spans; unanswered = t.unanswered; hashes = t.hashes; exposure = c.exposure_with-exposure.result; promised = t.promised; bodies = t.bodies })
    refl c.insert.ensures.items refl refl c.insert.ensures.room refl refl

pub exposure_with-exposure-requires-clause-quiet : goal.exposure_with-exposure-requires-clause-quiet
exposure_with-exposure-requires-clause-quiet g c = told_quiet c.args.items.now c.args.table.now c.requires.told
