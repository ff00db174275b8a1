use Rattle.std.proofs.Common.{refl, sym, ap, subst, arith, rules}
use Rattle.node_tables.specs.Tables.{IsSegmentAt}
use Rattle.node_tables.proofs.Bodied.{segment_closes}
use Rattle.node_tables.proofs.Hashed.{asked_same}
use Rattle.node_tables.proofs.bodies.put_whole_segment.Goals as goal

pub close_by_segment-requires-clause-spelled : goal.close_by_segment-requires-clause-spelled
close_by_segment-requires-clause-spelled g c =
    let step = c.put_segment.ensures.step in
    (asked_same c.args.items.now c.args.place c.args.table.now c.put_segment.new.table step.node step.unanswered step.hashes c.requires.kept.asked).spelled

pub close_by_segment-requires-clause-hashed : goal.close_by_segment-requires-clause-hashed
close_by_segment-requires-clause-hashed g c =
    let step = c.put_segment.ensures.step in
    (asked_same c.args.items.now c.args.place c.args.table.now c.put_segment.new.table step.node step.unanswered step.hashes c.requires.kept.asked).hashed

pub close_by_segment-requires-clause-segment : goal.close_by_segment-requires-clause-segment
close_by_segment-requires-clause-segment g c = subst (λ n. IsSegmentAt c.args.items.now n c.args.place) (sym c.put_segment.ensures.step.node) c.requires.segment

pub returns : goal.returns
returns g c =
    let came = c.put_segment.ensures in
    let same = ap (λ v. v.room) came.step.unanswered in
    record {
      kept = record { told = search rules; asked = record { spelled = c.close_by_segment.ensures.spelled; hashed = c.close_by_segment.ensures.hashed } };
      step = segment_closes c.args.items.now c.args.place c.args.table.now _ c.put_segment.new.table came.step c.requires.segment refl refl refl refl c.close_by_segment.ensures.items;
      rooms = record { span_room = came.room; open_room = omega (arith, c.close_by_segment.ensures.room, same) };
      counts = record { promised = came.counts.promised; bodies = came.counts.bodies };
    }
