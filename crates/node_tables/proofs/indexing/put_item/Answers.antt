use Rattle.node_tables.specs.within.Coming.{StatementsCame}
use Rattle.node_tables.proofs.Places.{read_at}
use Rattle.node_tables.proofs.Received.{receipts_now}
use Rattle.node_tables.proofs.Stepping.{ascend_still}
use Rattle.node_tables.proofs.Whole.{body_due, item_came, room_of}
use Rattle.node_tables.proofs.indexing.put_item.Goals as goal

pub put_statements-requires-clause-told : goal.put_statements-requires-clause-told
put_statements-requires-clause-told g c = λ i t at. (c.requires.due i t at).others.kept.told

pub put_statements-requires-clause-room : goal.put_statements-requires-clause-room
put_statements-requires-clause-room g c = λ i t at.
    let x = c.index-items-place.result in
    let here = read_at c.args.items.now c.args.place x c.requires.there c.index-items-place.is in
    room_of c.args.items.now c.args.place c.positions-count.result x here c.positions-count.ensures t ((c.requires.due i t at).room x here)

pub put_body-requires-clause-standing : goal.put_body-requires-clause-standing
put_body-requires-clause-standing g c =
    let items = c.args.items.now in
    let n = c.args.place in
    let k = c.positions-count.result in
    let x = c.index-items-place.result in
    let here = read_at items n x c.requires.there c.index-items-place.is in
    record {
      ordered = c.requires.order;
      ascending = ascend_still (StatementsCame items n k) c.args.tables.now c.put_statements.new.tables (λ t u came. came.step.node) c.put_statements.ensures c.requires.ascending;
      told = λ i u at. let (t, in_old, came) = c.put_statements.ensures i u at in came.told;
      receipts = λ i u at.
          let (t, in_old, came) = c.put_statements.ensures i u at in
          receipts_now items n k x t u here c.positions-count.ensures (c.requires.due i t in_old).receipts came.step;
    }

pub put_body-requires-clause-due : goal.put_body-requires-clause-due
put_body-requires-clause-due g c = λ i u at.
    let x = c.index-items-place.result in
    let here = read_at c.args.items.now c.args.place x c.requires.there c.index-items-place.is in
    let (t, in_old, came) = c.put_statements.ensures i u at in
    body_due c.args.items.now c.args.place c.positions-count.result x here t u (c.requires.due i t in_old) came

pub returns : goal.returns
returns g c = λ i v at.
    let x = c.index-items-place.result in
    let here = read_at c.args.items.now c.args.place x c.requires.there c.index-items-place.is in
    let (u, in_mid, body) = c.put_body.ensures i v at in
    let (t, in_old, came) = c.put_statements.ensures i u in_mid in
    (t, in_old, item_came c.args.items.now c.args.place c.positions-count.result x here t u (c.requires.due i t in_old) came c.positions-count.ensures v body)
