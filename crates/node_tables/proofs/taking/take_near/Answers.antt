use Rattle.std.proofs.Common.{◌-◌, ◌<◌, length, inl, inr, ⊎_elim, arith, sym, subst, ◌∙◌}
use Rattle.node_tables.proofs.Closed.{Seen, more_namings, more_taken, none_taken, one_unnamed, same_namings, seen_all, seen_first, seen_next, seen_without}
use Rattle.node_tables.proofs.taking.take_near.Goals as goal

pub loop-at-init : goal.loop-at-init
loop-at-init g c = record {
  seen = seen_first c.args.items.now c.args.answer c.args.fronts c.args.own.now.items c.places_of-near.result.start c.places_of-near.result.end c.places_of-near.ensures.inside c.places_of-near.ensures.around;
  places = none_taken c.args.items.now c.args.answer c.args.places.now.items c.requires.spelled;
  own = same_namings c.args.places.now.items c.args.own.now.items c.requires.own;
  others = same_namings c.args.places.now.items c.args.others.now.items c.requires.others;
  room = omega arith;
}

pub loop-at-preserved-in-None : goal.loop-at-preserved-in-None
loop-at-preserved-in-None g c =
    let before = c.loop-at.invariant in
    record {
      seen = seen_next c.args.items.now c.args.answer c.args.fronts c.loop-at.own.items c.loop-at.at c.loop-at.end before.seen c.loop-at-test.true c.in-None.ensures.none;
      places = before.places;
      own = before.own;
      others = before.others;
      room = before.room;
    }

pub loop-at-preserved : goal.loop-at-preserved
loop-at-preserved g c =
    let before = c.loop-at.invariant in
    let items = c.args.items.now in
    let mid = c.loop-at.places.items in
    let new = c.take_named.new.places.items in
    let took = c.take_named.ensures in
    let gone = c.take_away.ensures in
    let inside : c.loop-at.at < length c.loop-at.own.items = omega (arith, c.loop-at-test.true, before.seen.inside) in
    let own_now = one_unnamed new c.loop-at.own.items c.take_away.new.namings.items c.in-Some.naming gone.order gone.fewer
    (λ m has. ⊎_elim (λ still. inl still) (λ same. inr (same ∙ sym (c.in-Some.ensures.some.1 m inside))) (gone.others m m has)) took.gone in
    record {
      seen = subst (λ l. Seen items c.args.answer c.args.fronts l c.loop-at.at (c.loop-at.end - 1)) (sym gone.items) (seen_without items c.args.answer c.args.fronts c.loop-at.own.items c.loop-at.at c.loop-at.end before.seen c.loop-at-test.true);
      places = more_taken items c.args.answer c.args.places.now.items mid new before.places took.places;
      own = more_namings mid new c.args.own.now.items c.loop-at.own.items c.take_away.new.namings.items took.places.fewer before.own own_now;
      others = more_namings mid new c.args.others.now.items c.loop-at.others.items c.take_named.new.others.items took.places.fewer before.others took.others;
      room = omega (arith, before.room, took.room);
    }

pub returns-clause-done : goal.returns-clause-done
returns-clause-done g c = seen_all c.args.items.now c.args.answer c.args.fronts c.loop-at.own.items c.loop-at.at c.loop-at.end c.loop-at.invariant.seen (omega (arith, c.loop-at-test.false))
