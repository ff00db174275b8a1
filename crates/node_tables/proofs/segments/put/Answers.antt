use Rattle.std.proofs.Common.{refl, arith, rules}
use Rattle.node_tables.specs.declared.span.Span.{Span}
use Rattle.node_tables.proofs.Segmented.{span_reach, step_segment, told_segment}
use Rattle.node_tables.proofs.segments.put.Goals as goal

pub exposure_with-exposure-requires-clause-reach : goal.exposure_with-exposure-requires-clause-reach
exposure_with-exposure-requires-clause-reach g c = span_reach c.args.items.now c.args.place c.args.kept.now c.requires.here c.denials_are_within_reach.ensures c.args.reach c.requires.reach

pub returns : goal.returns
returns g c =
    let items = c.args.items.now in
    let x = c.args.kept.now in
    let reach = c.args.reach in
    let span : Span = record { item = c.args.place; low = reach.low; last = reach.last } in
    record {
      told = told_segment items c.args.table.now _ span (record { item = 0; position = 0 }) refl refl refl c.put.ensures.members c.requires.told
          (record { segment = (x, c.requires.here, c.requires.own); fits = omega arith; reach = span_reach items c.args.place x c.requires.here c.denials_are_within_reach.ensures reach c.requires.reach })
          c.exposure_with-exposure.ensures;
      step = step_segment items c.args.table.now _ span (record { item = 0; position = 0 }) refl refl refl c.put.ensures.members c.args.place refl refl refl;
      room = search rules;
      counts = search rules;
    }
