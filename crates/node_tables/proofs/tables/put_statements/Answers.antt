use Rattle.std.proofs.Common.{◌≡◌, ◌+◌, subst, arith}
use Rattle.node_tables.specs.Steps.{EachBecomes}
use Rattle.node_tables.specs.within.Coming.{StatementCame, StatementsCame}
use Rattle.node_tables.proofs.Stepping.{ascend_still, at, each_then, none_came, one_came, room_at}
use Rattle.node_tables.proofs.tables.put_statements.Goals as goal

pub loop-position-init : goal.loop-position-init
loop-position-init g c = (c.requires.ascending, λ i t there. (t, there, none_came c.args.items.now c.args.item t (c.requires.told i t there)))

pub put-requires-clause-told : goal.put-requires-clause-told
put-requires-clause-told g c = λ i u there. let (t, in_old, came) = c.loop-position.invariant.1 i u there in came.told

pub put-requires-clause-room : goal.put-requires-clause-room
put-requires-clause-room g c = room_at c.args.items.now c.args.item c.args.count c.loop-position.position c.args.tables.now c.loop-position.tables c.loop-position-test.true c.requires.room c.loop-position.invariant.1

pub loop-position-preserved : goal.loop-position-preserved
loop-position-preserved g c =
    let n = c.args.item in
    let k = c.loop-position.position in
    let one = StatementCame c.args.items.now (at c.args.items.now n k) in (
      ascend_still one c.loop-position.tables c.put.new.tables (λ t u came. came.step.node) c.put.ensures c.loop-position.invariant.0,
      each_then (StatementsCame c.args.items.now n k) one (StatementsCame c.args.items.now n (k + 1)) (one_came c.args.items.now n k) c.args.tables.now c.loop-position.tables c.put.new.tables c.loop-position.invariant.1 c.put.ensures,
    )

pub returns : goal.returns
returns g c =
    let all : c.loop-position.position ≡ c.args.count = omega (arith, c.loop-position-test.false, c.loop-position.auto.position-end) in
    subst (λ n. EachBecomes (StatementsCame c.args.items.now c.args.item n) c.args.tables.now c.loop-position.tables) all c.loop-position.invariant.1
