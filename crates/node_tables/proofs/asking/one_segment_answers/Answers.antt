use Rattle.std.proofs.Common.{ap, sym, ◌∙◌}
use Rattle.item_forms.specs.Forms.{shown}
use Rattle.node_tables.proofs.Challenged.{holders_tell}
use Rattle.node_tables.proofs.asking.one_segment_answers.Goals as goal

pub one_holder_answers-requires : goal.one_holder_answers-requires
one_holder_answers-requires g c = (c.requires.asked.hashed c.if-table.true).holders.order

pub returns-in-Some-Audit : goal.returns-in-Some-Audit
returns-in-Some-Audit g c =
    let t = c.args.table.now in
    holders_tell c.args.items.now t.node c.args.place c.args.challenge.now c.requires.here c.requires.against t.spans.items c.requires.others t.hashes (c.requires.asked.hashed c.if-table.true).holders
    c.answers_are_inherited.ensures c.in-Some-Audit.audit.now (sym c.in-Some-Audit.ensures.some.0 ∙ ap shown c.in-Some-Audit.field-0-is) c.one_holder_answers.result c.one_holder_answers.ensures.answers c.one_holder_answers.ensures.none
