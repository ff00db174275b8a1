use Rattle.std.proofs.Common.{◌≡◌, List, [], ◌∷◌, ◌++◌, ◌+◌, length, sym, ap, subst, ◌∙◌, arith, rules}
use Rattle.std.specs.List.{insert}
use Rattle.std.proofs.lemmas.List.{with_items_is}
use Rattle.std.proofs.lemmas.List.Edits.{length-insert}
use Rattle.evidence_item.specs.Checking.{Checked}
use Rattle.node_tables.specs.Indexed.{IsTable}
use Rattle.node_tables.specs.Places.{IsOrder}
use Rattle.node_tables.specs.Rooms.{ItemRooms}
use Rattle.node_tables.specs.Steps.{AllTables}
use Rattle.node_tables.proofs.Joined.{order_more, store_more}
use Rattle.indexed_store.proofs.Owed.{stepped}
use Rattle.indexed_store.proofs.taking.add.Goals as goal

pub index-requires-clause-order : goal.index-requires-clause-order
index-requires-clause-order g c =
    let items = c.args.index.now.items.items in
    let order = c.args.index.now.order.items in
    let x = c.args.item in
    let n : c.len-place.result ≡ length items = omega (arith, c.len-place.ensures, c.args.index.now.items.ok.0) in
    let e1 : c.deref.result.now ≡ items ++ x ∷ [] = c.deref.ensures.value ∙ c.push_reserved.ensures.items in
    let e2 : c.insert.new.self.items ≡ insert order c.args.gap (length items) = c.insert.ensures.items ∙ ap (insert order c.args.gap) n in
    subst (λ (l : List Checked). IsOrder l c.insert.new.self.items) (sym e1) (subst (IsOrder (items ++ x ∷ [])) (sym e2) (order_more items order c.requires.store.ordered x c.args.gap c.requires.gap.inside c.requires.gap.searched))

pub index-requires-clause-others : goal.index-requires-clause-others
index-requires-clause-others g c = record {
  others = c.args.index.now.items.items;
  last = c.args.item;
  split = c.deref.ensures.value ∙ c.push_reserved.ensures.items;
  absent = c.requires.gap.absent;
  each = rw c.deref_mut.ensures.value c.requires.store.each;
  room = rw c.deref_mut.ensures.value c.requires.room.tables;
}

pub returns-clause-store : goal.returns-clause-store
returns-clause-store g c =
    let items = c.args.index.now.items.items in
    let order = c.args.index.now.order.items in
    let tables = c.args.index.now.tables.items in
    let x = c.args.item in
    let more : List Checked = items ++ x ∷ [] in
    let n : c.len-place.result ≡ length items = omega (arith, c.len-place.ensures, c.args.index.now.items.ok.0) in
    let e1 : c.deref.result.now ≡ more = c.deref.ensures.value ∙ c.push_reserved.ensures.items in
    let e2 : c.insert.new.self.items ≡ insert order c.args.gap (length items) = c.insert.ensures.items ∙ ap (insert order c.args.gap) n in
    let each : AllTables (IsTable more) c.index.new.tables = subst (λ (l : List Checked). AllTables (IsTable l) c.index.new.tables) e1 c.index.ensures.each in
    let store = store_more c.args.directory.now g.P.Program.means items order tables c.requires.store x c.requires.whole (insert order c.args.gap (length items)) c.index.new.tables
    (order_more items order c.requires.store.ordered x c.args.gap c.requires.gap.inside c.requires.gap.searched) (c.index.auto.tables ∙ ap length c.deref_mut.ensures.value) c.index.ensures.ascending each (rw c.deref_mut.ensures.value at (c.index.ensures.rooms items x e1)) in
    rw (c.push_reserved.ensures.items, e2, with_items_is c.args.index.now.tables c.index.new.tables (c.index.auto.tables ∙ c.deref_mut.ensures.len)) store

pub returns-clause-joins : goal.returns-clause-joins
returns-clause-joins g c =
    let longer : length c.insert.new.self.items ≡ length c.args.index.now.order.items + 1 = ap length c.insert.ensures.items ∙ length-insert c.args.index.now.order.items c.args.gap _ c.requires.gap.inside in
    record {
      tables = stepped (ItemRooms c.args.item) c.args.index.now _ c.index.new.tables c.deref_mut.ensures.value (c.index.auto.tables ∙ c.deref_mut.ensures.len) (c.index.ensures.rooms c.args.index.now.items.items c.args.item (c.deref.ensures.value ∙ c.push_reserved.ensures.items));
      len = omega arith;
      capacity = search rules;
      grows = omega (arith, longer);
      order = omega arith;
    }
