use Rattle.std.proofs.Common.{sym, not, ◌∙◌}
use Rattle.kept_items.specs.Positions.{stated}
use Rattle.node_tables.specs.Receipts.{received}
use Rattle.node_tables.specs.within.Sendings.{is_among}
use Rattle.node_tables.proofs.Asked.{asked_filtered}
use Rattle.node_tables.proofs.Receipts.{among_is, among_nothing}
use Rattle.node_tables.proofs.closing.take_received.Goals as goal

pub returns-in-Some-clause-items : goal.returns-in-Some-clause-items
returns-in-Some-clause-items g c =
    among_is c.args.items.now (received c.args.node (stated c.args.kept.now c.args.position)) c.in-Some.sending c.args.places.now.items c.take_sending.new.places.items (sym c.received.ensures ∙ c.in-Some.is) c.take_sending.ensures.items

pub returns-in-Some-clause-asked : goal.returns-in-Some-clause-asked
returns-in-Some-clause-asked g c =
    let r = received c.args.node (stated c.args.kept.now c.args.position) in
    asked_filtered c.args.items.now (λ o. not (is_among r o)) c.args.places.now.items c.take_sending.new.places.items
    (among_is c.args.items.now r c.in-Some.sending c.args.places.now.items c.take_sending.new.places.items (sym c.received.ensures ∙ c.in-Some.is) c.take_sending.ensures.items) c.requires

pub returns-in_default-clause-items : goal.returns-in_default-clause-items
returns-in_default-clause-items g c = among_nothing c.args.items.now (received c.args.node (stated c.args.kept.now c.args.position)) c.args.places.now.items (sym c.received.ensures ∙ c.in_default.is)
