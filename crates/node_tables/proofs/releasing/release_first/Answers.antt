use Rattle.std.proofs.Common.{◌≡◌, ◌+◌, refl, subst, arith}
use Rattle.kept_items.specs.Positions.{stated}
use Rattle.node_tables.specs.Rooms.{TakesBack}
use Rattle.node_tables.specs.Steps.{EachBecomes, wanted}
use Rattle.node_tables.specs.within.Promising.{nothing, one_at}
use Rattle.node_tables.proofs.Reserved.{back_still, release_more}
use Rattle.node_tables.proofs.Stepping.{ascend_still, each_then}
use Rattle.node_tables.proofs.releasing.release_first.Goals as goal

pub loop-position-init : goal.loop-position-init
loop-position-init g c = (c.requires, λ i t at. (t, at, back_still (wanted (stated c.args.kept.now) 0) nothing t refl refl))

pub loop-position-preserved : goal.loop-position-preserved
loop-position-preserved g c =
    let x = c.args.kept.now in
    let k = c.loop-position.position in
    let one = TakesBack (one_at x k) nothing in (
      ascend_still one c.loop-position.tables c.release_at.new.tables (λ t u step. step.roomier.node) c.release_at.ensures c.loop-position.invariant.0,
      each_then (TakesBack (wanted (stated x) k) nothing) one (TakesBack (wanted (stated x) (k + 1)) nothing) (release_more x k) c.args.tables.now c.loop-position.tables c.release_at.new.tables c.loop-position.invariant.1 c.release_at.ensures,
    )

pub returns : goal.returns
returns g c =
    let all : c.loop-position.position ≡ c.args.count = omega (arith, c.loop-position-test.false, c.loop-position.auto.position-end) in
    subst (λ n. EachBecomes (TakesBack (wanted (stated c.args.kept.now) n) nothing) c.args.tables.now c.loop-position.tables) all c.loop-position.invariant.1
