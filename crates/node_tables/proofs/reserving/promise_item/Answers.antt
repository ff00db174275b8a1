use Rattle.node_tables.specs.Rooms.{IsReady, IsRoomier, KeepsPromises, Promises, TakesBack, bodies_of, rows_of}
use Rattle.node_tables.specs.within.Promising.{nothing}
use Rattle.node_tables.proofs.Reserved.{any_err, promised_back, ready, roomier_then}
use Rattle.node_tables.proofs.Stepping.{ascend_still, each_then}
use Rattle.node_tables.proofs.reserving.promise_item.Goals as goal

pub promise_body_or_release-requires : goal.promise_body_or_release-requires
promise_body_or_release-requires g c = ascend_still IsRoomier c.args.tables.now c.promise_statements.new.tables (λ t u step. step.node) c.promise_statements.ensures.same c.requires

pub returns-in_err-promise_body_or_release-clause-same : goal.returns-in_err-promise_body_or_release-clause-same
returns-in_err-promise_body_or_release-clause-same g c =
    each_then IsRoomier IsRoomier IsRoomier roomier_then c.args.tables.now c.promise_statements.new.tables c.promise_body_or_release.new.tables c.promise_statements.ensures.same c.promise_body_or_release.ensures.same

pub returns-in_err-promise_body_or_release-clause-refused : goal.returns-in_err-promise_body_or_release-clause-refused
returns-in_err-promise_body_or_release-clause-refused g c =
    let w = rows_of c.args.kept.now in
    any_err c.from_residual-in_err-promise_body_or_release.result _ (each_then (Promises w nothing) (TakesBack w nothing) KeepsPromises (promised_back w nothing) c.args.tables.now c.promise_statements.new.tables c.promise_body_or_release.new.tables
    c.in_ok-promise_statements.ensures.ok c.in_err-promise_body_or_release.ensures.refused)

pub returns-clause-same : goal.returns-clause-same
returns-clause-same g c =
    each_then IsRoomier IsRoomier IsRoomier roomier_then c.args.tables.now c.promise_statements.new.tables c.promise_body_or_release.new.tables c.promise_statements.ensures.same c.promise_body_or_release.ensures.same

pub returns-clause-ok : goal.returns-clause-ok
returns-clause-ok g c =
    let x = c.args.kept.now in
    each_then (Promises (rows_of x) nothing) (Promises nothing (bodies_of x)) (IsReady x) (ready x) c.args.tables.now c.promise_statements.new.tables c.promise_body_or_release.new.tables c.in_ok-promise_statements.ensures.ok c.in_ok-promise_body_or_release.ensures.ok
