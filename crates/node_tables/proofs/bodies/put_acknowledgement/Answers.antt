use Rattle.std.proofs.Common.{not, refl, arith, rules}
use Rattle.std.specs.Prelude.{slice_get}
use Rattle.node_tables.specs.within.Placing.{answered_by}
use Rattle.node_tables.proofs.Asked.{asked_filtered}
use Rattle.node_tables.proofs.Bodied.{ack_closes, ack_unsegmented, closed}
use Rattle.node_tables.proofs.Hashed.{hashed_rest, none_came}
use Rattle.node_tables.proofs.bodies.put_acknowledgement.Goals as goal

pub returns : goal.returns
returns g c =
    let items = c.args.items.now in
    let n = c.args.place in
    let t = c.args.table.now in
    let old = t.unanswered.items in
    let new = c.close_acknowledged.new.unanswered.items in
    let is = c.close_acknowledged.ensures.items in
    let none = ack_unsegmented items t.node n c.requires.here in
    record {
      kept = record {
        told = search rules;
        asked = record {
          spelled = asked_filtered items (λ o. not (answered_by o (slice_get items n))) old new is c.requires.kept.asked.spelled;
          hashed = λ whole. hashed_rest items t.node n 0 (none_came items t.node n none) old new t.hashes (c.requires.kept.asked.hashed whole) (λ i has. ((closed items n old new is i).0 has).0) (λ i d has audit seg. absurd (none seg));
        };
      };
      step = ack_closes items n t _ c.requires.here refl refl refl refl is;
      rooms = record { span_room = omega arith; open_room = omega (arith, c.close_acknowledged.ensures.room) };
      counts = record { promised = refl; bodies = refl };
    }
