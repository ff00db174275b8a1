use Rattle.node_tables.specs.Rooms.{IsRoomier, KeepsPromises, TakesBack, rows_of}
use Rattle.node_tables.specs.within.Promising.{nothing}
use Rattle.node_tables.proofs.Reserved.{each_both, kept_released, roomier_then}
use Rattle.node_tables.proofs.Stepping.{ascend_still, each_then}
use Rattle.node_tables.proofs.reserving.promise_body_or_release.Goals as goal

pub release_first-requires : goal.release_first-requires
release_first-requires g c = ascend_still IsRoomier c.args.tables.now c.promise_body.new.tables (λ t u step. step.node) c.promise_body.ensures.same c.requires

pub returns-clause-same : goal.returns-clause-same
returns-clause-same g c =
    each_then IsRoomier (TakesBack (rows_of c.args.kept.now) nothing) IsRoomier (λ t u v a b. roomier_then t u v a b.roomier) c.args.tables.now c.promise_body.new.tables c.release_first.new.tables c.promise_body.ensures.same (rw c.positions.ensures at c.release_first.ensures)

pub returns-clause-refused : goal.returns-clause-refused
returns-clause-refused g c =
    let w = rows_of c.args.kept.now in
    each_then (λ t u. IsRoomier t u × KeepsPromises t u) (TakesBack w nothing) (TakesBack w nothing) (kept_released w nothing) c.args.tables.now c.promise_body.new.tables c.release_first.new.tables
    (each_both IsRoomier KeepsPromises c.args.tables.now c.promise_body.new.tables c.promise_body.ensures.same c.in-Err.ensures.refused) (rw c.positions.ensures at c.release_first.ensures)
