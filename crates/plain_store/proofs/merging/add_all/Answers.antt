use Rattle.kept_evidence.proofs.Added.{set_joins, store_joins}
use Rattle.plain_store.proofs.merging.add_all.Goals as goal

pub join-requires-clause-apart : goal.join-requires-clause-apart
join-requires-clause-apart g c = rw c.reserve.ensures.items c.requires.apart

pub returns-clause-store : goal.returns-clause-store
returns-clause-store g c =
    let either = rw c.reserve.ensures.items at c.join.ensures.members in
    let statements = rw (c.in_ok-statements.ensures, c.deref.ensures.value) at c.in_ok-insert_all.ensures.added in
    store_joins c.args.directory.now g.P.Program.means c.args.kept.now.items c.args.more.items c.join.new.kept.items either c.requires.more c.args.held.now c.insert_all.new.self c.requires.store c.join.ensures.ascending statements

pub returns-clause-joined : goal.returns-clause-joined
returns-clause-joined g c = set_joins c.args.kept.now.items c.args.more.items c.join.new.kept.items (rw c.reserve.ensures.items at c.join.ensures.members)
