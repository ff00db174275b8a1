use Rattle.std.proofs.Common.{◌≡◌, ◌+◌, refl, subst, arith}
use Rattle.kept_items.specs.Positions.{positions, stated}
use Rattle.node_tables.specs.Rooms.{IsRoomier, KeepsPromises, Promises, TakesBack}
use Rattle.node_tables.specs.Steps.{EachBecomes, wanted}
use Rattle.node_tables.specs.within.Promising.{nothing, one_at}
use Rattle.node_tables.proofs.Reserved.{any_err, each_so, promise_more, promised_back, promises_still, roomier_then}
use Rattle.node_tables.proofs.Stepping.{ascend_still, each_then}
use Rattle.node_tables.proofs.reserving.promise_statements.Goals as goal

pub loop-position-init : goal.loop-position-init
loop-position-init g c = (c.requires, λ i t at. (t, at, promises_still (wanted (stated c.args.kept.now) 0) nothing t refl refl))

pub returns-in_err-promise_or_release-clause-same : goal.returns-in_err-promise_or_release-clause-same
returns-in_err-promise_or_release-clause-same g c =
    each_then (Promises (wanted (stated c.args.kept.now) c.loop-position.position) nothing) IsRoomier IsRoomier (λ t u v a b. roomier_then t u v a.roomier b) c.args.tables.now c.loop-position.tables c.promise_or_release.new.tables c.loop-position.invariant.1 c.promise_or_release.ensures.same

pub loop-position-preserved : goal.loop-position-preserved
loop-position-preserved g c =
    let x = c.args.kept.now in
    let k = c.loop-position.position in (
      ascend_still IsRoomier c.loop-position.tables c.promise_or_release.new.tables (λ t u step. step.node) c.promise_or_release.ensures.same c.loop-position.invariant.0,
      each_then (Promises (wanted (stated x) k) nothing) (Promises (one_at x k) nothing) (Promises (wanted (stated x) (k + 1)) nothing) (promise_more x k) c.args.tables.now c.loop-position.tables c.promise_or_release.new.tables c.loop-position.invariant.1
          c.in_ok-promise_or_release.ensures.ok,
    )

pub returns-clause-same : goal.returns-clause-same
returns-clause-same g c = each_so (Promises (wanted (stated c.args.kept.now) c.loop-position.position) nothing) IsRoomier (λ t u h. h.roomier) c.args.tables.now c.loop-position.tables c.loop-position.invariant.1

pub returns-clause-ok : goal.returns-clause-ok
returns-clause-ok g c =
    let all : c.loop-position.position ≡ positions c.args.kept.now.item.fields = omega (arith, c.loop-position-test.false, c.loop-position.auto.position-end, c.positions-position-end.ensures) in
    subst (λ n. EachBecomes (Promises (wanted (stated c.args.kept.now) n) nothing) c.args.tables.now c.loop-position.tables) all c.loop-position.invariant.1

pub returns-in_err-promise_or_release-clause-refused : goal.returns-in_err-promise_or_release-clause-refused
returns-in_err-promise_or_release-clause-refused g c =
    let w = wanted (stated c.args.kept.now) c.loop-position.position in
    any_err c.from_residual.result _ (each_then (Promises w nothing) (TakesBack w nothing) KeepsPromises (promised_back w nothing) c.args.tables.now c.loop-position.tables c.promise_or_release.new.tables c.loop-position.invariant.1 c.in_err-promise_or_release.ensures.refused)
