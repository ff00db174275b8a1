-- What tables are promised: as much as the items that are still to come need, and nothing at rest.
use Rattle.std.proofs.Common.{◌≡◌, List, [], ◌∷◌, length, refl, sym, ap, subst, ◌∙◌, arith}
use Rattle.std.specs.Vec.{with_items}
use Rattle.std.proofs.lemmas.List.{with_items_is}
use Rattle.authenticators.specs.Directory.{Listing}
use Rattle.replay_verifier.specs.Meaning.{Meaning}
use Rattle.evidence_item.specs.Checking.{Checked}
use Rattle.node_tables.specs.declared.table.Table.{Table}
use Rattle.node_tables.specs.Rooms.{AreAllReleased, AreReady, IsReady, IsRoomier, KeepsPromises, Owes, bodies_of, rows_of, sum_of}
use Rattle.node_tables.specs.Steps.{AllTables, EachBecomes}
use Rattle.node_tables.proofs.Joined.{roomier_store}
use Rattle.node_tables.proofs.Many.{first_ready, rest_ready}
use Rattle.node_tables.proofs.Reserved.{back_still, each_both, each_so, kept_released, many_none, many_push, promised_back, room_for_all}
use Rattle.node_tables.proofs.Stepping.{each_then}
use Rattle.indexed_store.specs.declared.index.Index.{Index}
use Rattle.indexed_store.specs.within.Resting.{HasRoomOf, IsAtRest, IsAwaiting, IsIndex, IsMadeReady, IsReadier, JoinsAtMost}

pub each_kept : (tables : List Table) → EachBecomes KeepsPromises tables tables
each_kept tables i u at = (u, at, record { promised = refl; bodies = refl })

-- A step of the tables that were lent as a slice is one of the tables as they are kept.
pub stepped : {P : Type 0} (R : Table → Table → Type 0) (old : Index P) (now new : List Table) → now ≡ old.tables.items → length new ≡ old.tables.len → EachBecomes R now new → EachBecomes R old.tables.items (with_items old.tables new).items
stepped R old now new given long each =
    subst (λ l. EachBecomes R l (with_items old.tables new).items) given (subst (EachBecomes R now) (sym (with_items_is old.tables new long)) each)

pub readied : {P : Type 0} (old new : Index P) → new.items.items ≡ old.items.items → new.order.items ≡ old.order.items → new.tables.len ≡ old.tables.len → EachBecomes IsRoomier old.tables.items new.tables.items → IsReadier old new
readied old new items order len tables = record { items = items; order = order; tables = tables; long = sym new.tables.ok.0 ∙ len ∙ old.tables.ok.0 }

-- With more room the index is as before; and at rest, where promises are kept.
pub readier_store : {S P : Type 0} (ds : Listing) (program : Meaning S) (old new : Index P) → IsReadier old new → IsIndex ds program old → IsIndex ds program new
readier_store ds program old new ready store =
    rw (ready.items, ready.order) (roomier_store ds program old.items.items old.order.items old.tables.items store new.tables.items ready.long ready.tables)

pub still_rests : {S P : Type 0} (ds : Listing) (program : Meaning S) (old new : Index P) → IsReadier old new → EachBecomes KeepsPromises old.tables.items new.tables.items → IsAtRest ds program old → IsAtRest ds program new
still_rests ds program old new ready kept rest = record {
  indexed = readier_store ds program old new ready rest.indexed;
  owes = λ i u at.
      let (t, in_old, keeps) = kept i u at in
      let before = rest.owes i t in_old in
      record { statements = keeps.promised ∙ before.statements; bodies = keeps.bodies ∙ before.bodies };
}

-- ---- items that are still to come

pub one_ready : (x : Checked) (old new : List Table) → EachBecomes (IsReady x) old new → EachBecomes (AreReady (x ∷ [])) old new
one_ready x old new ready = each_so (IsReady x) (AreReady (x ∷ [])) (λ t u h. many_push [] x t t u (many_none t) h) old new ready

-- Those for which all was made ready are awaited.
pub awaits : {P : Type 0} (xs : List Checked) (old new : Index P) → AllTables (Owes []) old.tables.items → IsMadeReady xs old new → IsAwaiting xs new
awaits xs old new owes made = record {
  places = made.places;
  tables = λ i u at.
      let (t, in_old, step) = made.tables i u at in
      let before = owes i t in_old in
      let rows : sum_of rows_of xs u.node ≡ sum_of rows_of xs t.node = ap (sum_of rows_of xs) step.roomier.node in
      let own : sum_of bodies_of xs u.node ≡ sum_of bodies_of xs t.node = ap (sum_of bodies_of xs) step.roomier.node in
      record {
        room = room_for_all xs t u step;
        owes = record { statements = omega (arith, step.statements, before.statements, rows); bodies = omega (arith, step.bodies, before.bodies, own) };
      };
}

-- There is room for the first of them; and where it came, or was let go, the others are awaited.
module _ {P : Type 0} (x : Checked) (xs all : List Checked) (is : all ≡ x ∷ xs) where
  pub first_room : (index : Index P) → IsAwaiting all index → HasRoomOf x index
  first_room index waits =
      let count : length all ≡ length (x ∷ xs) = ap length is in
      let has = waits.places in
      record {
        places = record { items = omega (arith, count, has.items); order = omega (arith, count, has.order); most = omega (arith, count, has.most) };
        tables = first_ready x xs all index.tables.items is (λ i t at. (waits.tables i t at).room);
      }

  pub rest_awaited : (old new : Index P) → IsAwaiting all old → JoinsAtMost x old new → IsAwaiting xs new
  rest_awaited old new waits took =
      let count : length all ≡ length (x ∷ xs) = ap length is in
      let has = waits.places in
      record {
        places = record { items = omega (arith, count, has.items, took.len, took.capacity); order = omega (arith, count, has.order, took.order); most = omega (arith, count, has.most, took.len) };
        tables = λ i u at.
            let (t, in_old, rooms) = took.tables i u at in
            let before = subst (λ l. Owes l t) is (waits.tables i t in_old).owes in
            let same : sum_of rows_of xs u.node ≡ sum_of rows_of xs t.node = ap (sum_of rows_of xs) rooms.node in
            let also : sum_of bodies_of xs u.node ≡ sum_of bodies_of xs t.node = ap (sum_of bodies_of xs) rooms.node in
            record {
              room = rest_ready x xs all old.tables.items new.tables.items is (λ k s there. (waits.tables k s there).room) took.tables i u at;
              owes = record { statements = omega (arith, rooms.promised, before.statements, same); bodies = omega (arith, rooms.bodies, before.bodies, also) };
            };
      }

-- Where none is left, it is at rest.
pub comes_to_rest : {S P : Type 0} (ds : Listing) (program : Meaning S) (xs : List Checked) (index : Index P) → xs ≡ [] → IsIndex ds program index → IsAwaiting xs index → IsAtRest ds program index
comes_to_rest ds program xs index none store waits = record { indexed = store; owes = λ i t at. subst (λ l. Owes l t) none (waits.tables i t at).owes }

-- ---- promises that are taken back

pub none_released : (tables : List Table) → EachBecomes (AreAllReleased []) tables tables
none_released tables i t at = (t, at, back_still (sum_of rows_of []) (sum_of bodies_of []) t refl refl)

-- Those that were promised, a promise that was refused, and those taken back leave as much promised as before.
pub all_back : (xs : List Checked) (old mid more new : List Table) → EachBecomes (AreReady xs) old mid → EachBecomes IsRoomier mid more → EachBecomes KeepsPromises mid more → EachBecomes (AreAllReleased xs) more new → EachBecomes KeepsPromises old new
all_back xs old mid more new ready roomier kept back =
    let w = sum_of rows_of xs in
    let b = sum_of bodies_of xs in
    each_then (AreReady xs) (AreAllReleased xs) KeepsPromises (promised_back w b) old mid new ready
    (each_then (λ t u. IsRoomier t u × KeepsPromises t u) (AreAllReleased xs) (AreAllReleased xs) (kept_released w b) mid more new (each_both IsRoomier KeepsPromises mid more roomier kept) back)
