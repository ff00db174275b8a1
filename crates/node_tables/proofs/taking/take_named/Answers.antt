use Rattle.node_tables.proofs.Closed.{one_gone, one_taken, others_unnamed}
use Rattle.node_tables.proofs.taking.take_named.Goals as goal

pub returns-clause-places : goal.returns-clause-places
returns-clause-places g c = one_taken c.args.items.now c.args.answer c.args.naming.item c.args.places.now.items c.take_one.new.places.items c.requires.spelled c.take_one.ensures.items c.requires.answered

pub returns-clause-gone : goal.returns-clause-gone
returns-clause-gone g c = one_gone c.args.items.now c.args.answer c.args.naming.item c.args.places.now.items c.take_one.new.places.items c.requires.spelled c.take_one.ensures.items c.requires.answered

pub returns-clause-others : goal.returns-clause-others
returns-clause-others g c =
    others_unnamed c.take_one.new.places.items c.args.others.now.items c.unname.new.namings.items c.args.naming.item c.unname.ensures.order c.unname.ensures.fewer c.unname.ensures.others
    (one_gone c.args.items.now c.args.answer c.args.naming.item c.args.places.now.items c.take_one.new.places.items c.requires.spelled c.take_one.ensures.items c.requires.answered)
