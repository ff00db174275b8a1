-- A store at rest, and one that takes.
use Rattle.std.specs.Prelude.{◌≡◌, ◌+◌, ◌≤◌, ◌^◌, ℕ, List, [], length, vec_capacity, vec_len}
use Rattle.authenticators.specs.Directory.{Listing}
use Rattle.replay_verifier.specs.Meaning.{Meaning}
use Rattle.evidence_item.specs.Checking.{Checked}
use Rattle.node_tables.specs.declared.table.Table.{Table}
use Rattle.node_tables.specs.Indexed.{IsIndexed}
use Rattle.node_tables.specs.Places.{IsOrder}
use Rattle.node_tables.specs.Rooms.{AreReady, HasRoomFor, HasRoomForAll, IsRoomier, ItemRooms, Owes}
use Rattle.node_tables.specs.Steps.{AllTables, EachBecomes}
use Rattle.indexed_store.specs.declared.index.Index.{Index}

-- The order is that of the items' encodings.
abbrev pub IsOrdered : {P : Type 0} → Index P → Type 0
IsOrdered index = IsOrder index.items.items index.order.items

-- The order is that of the items' encodings, and the tables are those of the items.
abbrev pub IsIndex : {S P : Type 0} → Listing → Meaning S → Index P → Type 0
IsIndex ds program index = IsIndexed ds program index.items.items index.order.items index.tables.items

-- No table is owed what was promised.
pub record IsAtRest {S P : Type 0} (ds : Listing) (program : Meaning S) (index : Index P) : Type 0 where
  pub indexed : IsIndex ds program index
  pub owes : AllTables (Owes []) index.tables.items

-- ---- room

-- It has places for n items more.
pub record HasPlaces {P : Type 0} (n : ℕ) (index : Index P) : Type 0 where
  pub items : vec_len index.items + n ≤ vec_capacity index.items
  pub order : n ≤ index.order.room
  pub most : vec_len index.items + n ≤ 2 ^ 32

-- It has room for this item.
pub record HasRoomOf {P : Type 0} (x : Checked) (index : Index P) : Type 0 where
  pub places : HasPlaces 1 index
  pub tables : AllTables (HasRoomFor x) index.tables.items

-- The items are still to come: the table has room for all of them, and owes just them.
pub record Awaits (xs : List Checked) (t : Table) : Type 0 where
  pub room : HasRoomForAll xs t
  pub owes : Owes xs t

-- There are places for all of them, and each table awaits them.
pub record IsAwaiting {P : Type 0} (xs : List Checked) (index : Index P) : Type 0 where
  pub places : HasPlaces (length xs) index
  pub tables : AllTables (Awaits xs) index.tables.items

-- There are places for the items, and they were promised.
pub record IsMadeReady {P : Type 0} (xs : List Checked) (old new : Index P) : Type 0 where
  pub places : HasPlaces (length xs) new
  pub tables : EachBecomes (AreReady xs) old.tables.items new.tables.items

-- ---- what becomes of it

-- It has what it had, and no less room.
pub record IsReadier {P : Type 0} (old new : Index P) : Type 0 where
  pub items : new.items.items ≡ old.items.items
  pub order : new.order.items ≡ old.order.items
  pub tables : EachBecomes IsRoomier old.tables.items new.tables.items
  pub long : length new.tables.items ≡ length old.tables.items

-- At most this item came, and took of the room what was made for it.
pub record JoinsAtMost {P : Type 0} (x : Checked) (old new : Index P) : Type 0 where
  pub tables : EachBecomes (ItemRooms x) old.tables.items new.tables.items
  pub len : vec_len new.items ≤ vec_len old.items + 1
  pub capacity : vec_capacity new.items ≡ vec_capacity old.items
  pub grows : length old.order.items ≤ length new.order.items
  pub order : old.order.room ≤ new.order.room + 1
