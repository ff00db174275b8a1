use Rattle.std.proofs.Common.{arith, refl, rules, sym, ap, ◌∙◌}
use Rattle.node_tables.specs.within.Placing.{subject_by}
use Rattle.node_tables.proofs.Bodied.{answered_step, open_step}
use Rattle.node_tables.proofs.Challenged.{hashed_with, no_segment_here}
use Rattle.node_tables.proofs.Hashed.{asked_still}
use Rattle.node_tables.proofs.bodies.put_challenge.Goals as goal

pub put_by_spelling-requires-clause-room : goal.put_by_spelling-requires-clause-room
put_by_spelling-requires-clause-room g c = let r = c.requires.to_put in omega (arith, (r.due.room (ap subject_by r.here ∙ r.own)).unanswered)

pub put_by_hashes-requires-clause-lasts : goal.put_by_hashes-requires-clause-lasts
put_by_hashes-requires-clause-lasts g c = λ whole. (c.requires.to_put.due.others.kept.asked.hashed whole).lasts

pub put_by_hashes-requires-clause-firsts : goal.put_by_hashes-requires-clause-firsts
put_by_hashes-requires-clause-firsts g c = λ whole. (c.requires.to_put.due.others.kept.asked.hashed whole).firsts

pub returns-then-answered : goal.returns-then-answered
returns-then-answered g c =
    let r = c.requires.to_put in
    let t = c.args.table.now in
    record {
      kept = record { told = r.due.others.kept.told; asked = asked_still c.args.items.now c.args.place t (no_segment_here c.args.items.now t.node c.args.place c.args.kept.now r.here c.requires.against) r.due.others.kept.asked };
      step = answered_step c.args.items.now c.args.place t c.args.kept.now r.here c.requires.against (sym c.if-answered.true ∙ r.answered c.requires.against);
      rooms = record { span_room = omega arith; open_room = omega arith };
      counts = record { promised = refl; bodies = refl };
    }

pub returns : goal.returns
returns g c =
    let items = c.args.items.now in
    let x = c.args.kept.now in
    let t = c.args.table.now in
    let here = c.requires.to_put.here in
    let asked = c.requires.to_put.due.others.kept.asked in
    let members = c.put_by_spelling.ensures.members in
    let open_so = sym (c.requires.to_put.answered c.requires.against) ∙ c.if-answered.false in
    record {
      kept = record {
        told = search rules;
        asked = record {
          spelled = c.put_by_spelling.ensures.ascending;
          hashed = λ whole.
              let put = c.put_by_hashes.ensures in
              hashed_with items t.node c.args.place x here c.requires.against t.unanswered.items c.put_by_spelling.new.places.items t.hashes c.put_by_hashes.new.hashes
              members put.holders (put.keeps whole) (put.named whole) open_so (asked.hashed (put.whole whole));
        };
      };
      step = open_step items c.args.place t x here c.requires.against _ refl refl refl refl members open_so;
      rooms = record {
        span_room = omega arith;
        open_room = omega (arith, c.put_by_spelling.ensures.room);
      };
      counts = record { promised = refl; bodies = refl };
    }
