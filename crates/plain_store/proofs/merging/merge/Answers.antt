use Rattle.std.proofs.Common.{◌∙◌, arith}
use Rattle.kept_evidence.proofs.Added.{counted, missing_apart, missing_joins, missing_kept}
use Rattle.plain_store.proofs.merging.merge.Goals as goal

pub add_all-requires-clause-more : goal.add_all-requires-clause-more
add_all-requires-clause-more g c =
    rw (c.in_ok-copies.ensures, c.deref.ensures.value) (missing_kept c.args.directory.now g.P.Program.means c.args.kept.now.items c.args.others.now c.requires.others)

pub add_all-requires-clause-apart : goal.add_all-requires-clause-apart
add_all-requires-clause-apart g c = rw (c.in_ok-copies.ensures, c.deref.ensures.value) (missing_apart c.args.kept.now.items c.args.others.now)

pub returns-clause-told : goal.returns-clause-told
returns-clause-told g c =
    let before = counted c.args.kept.now.items c.requires.store.items.ascending in
    let after = counted c.add_all.new.kept.items c.in_ok-add_all.ensures.store.items.ascending in
    omega (arith, before, after, c.in_ok-add_all.ensures.count, c.len-new.ensures)

pub returns-clause-joined : goal.returns-clause-joined
returns-clause-joined g c =
    rw (c.in_ok-copies.ensures, c.deref.ensures.value) at c.in_ok-add_all.ensures.joined ∙ missing_joins c.args.kept.now.items c.args.others.now
