use Rattle.std.proofs.Common.{◌≡◌, List, length, ap, subst, arith}
use Rattle.evidence_item.specs.Checking.{Checked}
use Rattle.indexed_store.specs.within.Resting.{IsAwaiting}
use Rattle.indexed_store.proofs.Digested.{same_still, then_still}
use Rattle.indexed_store.proofs.Listed.{counts}
use Rattle.indexed_store.proofs.Owed.{awaits, readier_store, still_rests}
use Rattle.indexed_store.proofs.merging.add_all.Goals as goal

pub returns-in_err-prepare_all-clause-store : goal.returns-in_err-prepare_all-clause-store
returns-in_err-prepare_all-clause-store g c = still_rests _ _ _ _ c.prepare_all.ensures.same c.in_err-prepare_all.ensures.refused c.requires.store

pub add_each-requires-clause-store : goal.add_each-requires-clause-store
add_each-requires-clause-store g c = readier_store _ _ _ _ c.prepare_all.ensures.same c.requires.store.indexed

pub add_each-requires-clause-awaiting : goal.add_each-requires-clause-awaiting
add_each-requires-clause-awaiting g c =
    subst (λ (l : List Checked). IsAwaiting l c.prepare_all.new.index) c.deref.ensures.value (awaits _ _ _ c.requires.store.owes c.in_ok-prepare_all.ensures.ready)

pub returns-clause-told : goal.returns-clause-told
returns-clause-told g c =
    let before = counts c.args.index.now.items.items c.args.index.now.order.items c.requires.store.indexed.ordered in
    let after = counts c.add_each.new.index.items.items c.add_each.new.index.order.items c.add_each.ensures.store.indexed.ordered in
    let same : length c.prepare_all.new.index.order.items ≡ length c.args.index.now.order.items = ap length c.prepare_all.ensures.same.order in
    omega (arith, before, after, same, c.len.ensures, c.len-before.ensures, c.add_each.ensures.grows)

pub returns-in_err-prepare_all-clause-still : goal.returns-in_err-prepare_all-clause-still
returns-in_err-prepare_all-clause-still g c = same_still _ _ c.prepare_all.ensures.same.items

pub returns-clause-still : goal.returns-clause-still
returns-clause-still g c = then_still _ _ _ (same_still _ _ c.prepare_all.ensures.same.items) c.add_each.ensures.still
