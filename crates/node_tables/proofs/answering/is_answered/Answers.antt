use Rattle.std.proofs.Common.{sym, ◌∙◌}
use Rattle.node_tables.proofs.Answerers.{answered_by_receipts, answered_by_spans, by_acknowledgement}
use Rattle.node_tables.proofs.answering.is_answered.Goals as goal

pub returns-then-has_acknowledgement : goal.returns-then-has_acknowledgement
returns-then-has_acknowledgement g c =
    let t = c.args.table.now in
    sym (by_acknowledgement c.args.items.now t.node c.args.place c.args.challenge.now c.requires.here t.spans.items (c.has_acknowledgement.ensures.0 c.if-has_acknowledgement.true))

pub returns-in-Some : goal.returns-in-Some
returns-in-Some g c =
    answered_by_receipts c.args.items.now c.args.table.now.node c.args.challenge.now.item.fields c.requires.against c.in-Some.received c.in-Some.ensures
    (λ h. let yes = c.has_acknowledgement.ensures.1 h in let no = c.if-has_acknowledgement.false in cc (yes, no))

pub returns-in-None : goal.returns-in-None
returns-in-None g c =
    let t = c.args.table.now in
    c.one_segment_answers.ensures
    ∙ answered_by_spans c.args.items.now t.node c.args.place c.args.challenge.now c.requires.here t.spans.items c.requires.against c.requires.others
    (λ h. let yes = c.has_acknowledgement.ensures.1 h in let no = c.if-has_acknowledgement.false in cc (yes, no))
