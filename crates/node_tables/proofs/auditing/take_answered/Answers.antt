use Rattle.std.proofs.Common.{◌<◌, ℕ, List, length, refl, sym, subst, ◌∙◌, arith}
use Rattle.std.specs.Prelude.{Bool, slice_get}
use Rattle.node_tables.specs.within.Sendings.{audited_by}
use Rattle.node_tables.proofs.Taken.{Looked, looked_all, looked_away, looked_on}
use Rattle.node_tables.proofs.auditing.take_answered.Goals as goal

pub loop-at-init : goal.loop-at-init
loop-at-init g c = record { looked = record { same = refl; stay = λ k d lt. absurd (omega (arith, lt)); within = omega arith }; room = omega arith }

pub loop-at-preserved-then-answers_one : goal.loop-at-preserved-then-answers_one
loop-at-preserved-then-answers_one g c =
    let p : ℕ → Bool = λ i. audited_by (slice_get c.args.items.now i) (slice_get c.args.items.now c.args.answer) in
    let inside : c.loop-at.at < length c.loop-at.places.items = omega (arith, c.loop-at-test.true, c.len.ensures) in
    let before = c.loop-at.invariant in
    record {
      looked = subst (λ (l : List ℕ). Looked p c.args.places.now.items l c.loop-at.at) (sym c.remove.ensures.items) (looked_away p c.args.places.now.items c.loop-at.places.items c.loop-at.at before.looked inside (λ d. sym (c.answers_one.ensures d inside) ∙ c.if-answers_one.true));
      room = omega (arith, before.room, c.remove.ensures.room);
    }

pub loop-at-preserved : goal.loop-at-preserved
loop-at-preserved g c =
    let p : ℕ → Bool = λ i. audited_by (slice_get c.args.items.now i) (slice_get c.args.items.now c.args.answer) in
    let inside : c.loop-at.at < length c.loop-at.places.items = omega (arith, c.loop-at-test.true, c.len.ensures) in
    let before = c.loop-at.invariant in
    record {
      looked = looked_on p c.args.places.now.items c.loop-at.places.items c.loop-at.at before.looked inside (λ d. sym (c.answers_one.ensures d inside) ∙ c.if-answers_one.false);
      room = before.room;
    }

pub returns-clause-items : goal.returns-clause-items
returns-clause-items g c =
    let p : ℕ → Bool = λ i. audited_by (slice_get c.args.items.now i) (slice_get c.args.items.now c.args.answer) in
    looked_all p c.args.places.now.items c.loop-at.places.items c.loop-at.at c.loop-at.invariant.looked (omega (arith, c.loop-at-test.false, c.len.ensures))
