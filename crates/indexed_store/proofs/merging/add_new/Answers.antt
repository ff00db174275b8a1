use Rattle.std.proofs.Common.{refl, sym, ◌∙◌, arith}
use Rattle.std.specs.List.{length_refill}
use Rattle.node_tables.specs.Rooms.{IsReleased, IsRoomier}
use Rattle.node_tables.proofs.Joined.{roomier_store}
use Rattle.node_tables.proofs.Many.{held_stays, one_grows, rooms_released}
use Rattle.node_tables.proofs.Reserved.{each_so}
use Rattle.indexed_store.proofs.Digested.{pushed_still}
use Rattle.indexed_store.proofs.Owed.{stepped}
use Rattle.indexed_store.proofs.merging.add_new.Goals as goal

pub returns-in_default-clause-grown : goal.returns-in_default-clause-grown
returns-in_default-clause-grown g c = held_stays c.args.index.now.items.items c.args.item.item (rw c.deref.ensures.value at c.in_default.ensures.there)

pub returns-in_default-clause-store : goal.returns-in_default-clause-store
returns-in_default-clause-store g c =
    let released = stepped (IsReleased c.args.item) c.args.index.now _ c.release_item.new.tables c.deref_mut.ensures.value (c.release_item.auto.tables ∙ c.deref_mut.ensures.len) c.release_item.ensures in
    let old = c.args.index.now.tables in
    roomier_store c.args.directory.now g.P.Program.means c.args.index.now.items.items c.args.index.now.order.items old.items c.requires.store _ (sym (length_refill _ _ c.release_item.new.tables old.ok.0) ∙ old.ok.0)
    (each_so (IsReleased c.args.item) IsRoomier (λ t u h. h.roomier) old.items _ released)

pub returns-in_default-clause-joins : goal.returns-in_default-clause-joins
returns-in_default-clause-joins g c = record {
  tables = rooms_released c.args.item c.args.index.now.tables.items _ (stepped (IsReleased c.args.item) c.args.index.now _ c.release_item.new.tables c.deref_mut.ensures.value (c.release_item.auto.tables ∙ c.deref_mut.ensures.len) c.release_item.ensures);
  len = omega arith;
  capacity = refl;
  grows = omega arith;
  order = omega arith;
}

pub add-requires-clause-gap : goal.add-requires-clause-gap
add-requires-clause-gap g c = rw c.deref.ensures.value at c.in-Err.ensures.gap

pub returns-clause-grown : goal.returns-clause-grown
returns-clause-grown g c = one_grows c.args.index.now.items.items c.add.new.index.items.items c.args.item c.add.ensures.items

pub returns-in_default-clause-still : goal.returns-in_default-clause-still
returns-in_default-clause-still g c = λ i k at. at

pub returns-clause-still : goal.returns-clause-still
returns-clause-still g c = pushed_still c.args.index.now.items.items c.add.new.index.items.items c.args.item c.add.ensures.items
