use Rattle.plain_store.proofs.taking.prepare.Goals as goal

pub returns-clause-held : goal.returns-clause-held
returns-clause-held g c =
    let is = rw c.new-statements.ensures.items at c.in_ok-write_statements.ensures in
    rw is at c.insert_all.ensures.added
