use Rattle.std.proofs.Common.{◌-◌, ◌<◌, subst, sym, arith}
use Rattle.node_tables.specs.declared.bounds.Bounds.{Bounds}
use Rattle.node_tables.specs.within.Spanning.{IsBound}
use Rattle.node_tables.proofs.Spanned.{bound_both}
use Rattle.node_tables.proofs.bounds.joined.Goals as goal

pub loop-before-preserved : goal.loop-before-preserved
loop-before-preserved c =
    let spans = c.args.spans.now in
    let a = c.loop-before.all in
    let b = c.in-Some.before in
    let run = c.in-Some.ensures in
    let inside : c.args.place - a.count < c.args.place = omega (arith, c.loop-before.invariant.some, run.1) in
    let there = subst (λ (q : Bounds). IsBound spans (c.args.place - a.count) q) (sym (run.2 b c.loop-before.invariant.some)) (c.requires.bounded (c.args.place - a.count) b inside) in
    subst (λ (q : Bounds). IsBound spans c.args.place q) (sym c.with-all.ensures) (bound_both spans c.args.place a b run.1 c.loop-before.invariant there)
