use Rattle.std.proofs.Common.{refl, ◌∙◌, arith}
use Rattle.node_tables.specs.Rooms.{IsReady, IsRoomier, KeepsPromises}
use Rattle.node_tables.proofs.Reserved.{any_err, on_err, on_ok}
use Rattle.indexed_store.proofs.Owed.{each_kept, one_ready, readied, stepped}
use Rattle.indexed_store.proofs.taking.prepare.Goals as goal

pub returns-in_err-reserve-clause-refused : goal.returns-in_err-reserve-clause-refused
returns-in_err-reserve-clause-refused g c = any_err c.from_residual.result _ (each_kept c.args.index.now.tables.items)

pub returns-in_err-reserve-2-clause-refused : goal.returns-in_err-reserve-2-clause-refused
returns-in_err-reserve-2-clause-refused g c = any_err c.from_residual-in_err-reserve-2.result _ (each_kept c.args.index.now.tables.items)

pub returns-clause-same : goal.returns-clause-same
returns-clause-same g c = readied _ _ c.reserve.ensures.items c.reserve-2.ensures.same refl (stepped IsRoomier c.args.index.now _ c.promise_item.new.tables c.deref_mut.ensures.value (c.promise_item.auto.tables ∙ c.deref_mut.ensures.len) c.promise_item.ensures.same)

pub returns-clause-ready : goal.returns-clause-ready
returns-clause-ready g c = on_ok c.promise_item.result _ _ c.promise_item.ensures.ok (λ ready. record {
  places = record { items = c.in_ok-reserve.ensures.ok; order = c.in_ok-reserve-2.ensures.room; most = omega arith };
  tables = one_ready c.args.item.now c.args.index.now.tables.items _ (stepped (IsReady c.args.item.now) c.args.index.now _ c.promise_item.new.tables c.deref_mut.ensures.value (c.promise_item.auto.tables ∙ c.deref_mut.ensures.len) ready);
})

pub returns-clause-refused : goal.returns-clause-refused
returns-clause-refused g c = on_err c.promise_item.result _ _ c.promise_item.ensures.refused (λ kept. stepped KeepsPromises c.args.index.now _ c.promise_item.new.tables c.deref_mut.ensures.value (c.promise_item.auto.tables ∙ c.deref_mut.ensures.len) kept)
