use Rattle.std.proofs.Common.{◌<◌, length, arith}
use Rattle.node_tables.proofs.Alike.{alike_undenied}
use Rattle.node_tables.proofs.segments.denier.Goals as goal

pub loop-place-preserved : goal.loop-place-preserved
loop-place-preserved g c =
    let t = c.args.table.now in
    let lt : c.loop-place.place < length t.rows.items = omega (arith, c.loop-place-test.true, c.requires.inside) in
    alike_undenied c.args.items.now t c.requires.told c.requires.quiet c.args.kept.now.item.fields c.args.near.now.start c.loop-place.place c.behind_number-place.result lt c.behind_number-place.ensures.within c.loop-place.invariant (λ d. c.in_default.ensures.none d lt) c.behind_number-place.ensures.alike
