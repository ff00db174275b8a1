use Rattle.node_tables.proofs.Asked.{asked_put, found_is_old, members_put}
use Rattle.node_tables.proofs.bodies.put_by_spelling.Goals as goal

pub returns-clause-ascending : goal.returns-clause-ascending
returns-clause-ascending g c =
    asked_put c.args.items.now c.args.places.now.items c.requires.ascending c.args.place c.args.kept.now c.requires.here c.in-Err.gap c.in-Err.ensures.bound c.in-Err.ensures.position c.insert.new.self.items c.insert.ensures.items

pub returns-clause-members : goal.returns-clause-members
returns-clause-members g c =
    members_put c.args.items.now c.args.places.now.items c.requires.ascending c.args.place c.args.kept.now c.requires.here c.in-Err.gap c.in-Err.ensures.bound c.in-Err.ensures.position c.insert.new.self.items c.insert.ensures.items

pub returns-in_default-clause-members : goal.returns-in_default-clause-members
returns-in_default-clause-members g c =
    absurd (found_is_old c.args.items.now c.args.places.now.items c.requires.ascending c.args.place c.args.kept.now c.requires.here c.requires.new c.in_default.field-0 c.in_default.ensures.bound c.in_default.ensures.position)
