use Rattle.std.proofs.Common.{◌≡◌, ◌<◌, ◌≤◌, false, arith, get_or, length, ap, subst, sym, ⊎_elim, ◌∙◌}
use Rattle.std.proofs.lemmas.Bool.{cases_lt}
use Rattle.std.proofs.lemmas.List.Elements.{Contains-get_or}
use Rattle.node_tables.specs.declared.mark.Mark.{Mark}
use Rattle.node_tables.specs.within.Placing.{answers_at}
use Rattle.node_tables.proofs.asking.one_near_answers.Goals as goal

pub loop-at-init : goal.loop-at-init
loop-at-init g c = λ k d lo hi inside. absurd (omega (arith, lo, hi))

pub loop-at-preserved : goal.loop-at-preserved
loop-at-preserved g c = λ k d lo hi inside. ⊎_elim
    (λ (first : k < c.loop-at.at). c.loop-at.invariant k d lo first inside)
    (λ (le : c.loop-at.at ≤ k).
    let same : c.loop-at.at ≡ k = omega (arith, le, hi) in
    subst (λ n. answers_at c.args.items.now c.args.challenge (get_or c.args.holders.now.items n d).item ≡ false) same
    (sym (c.holder_answers.ensures d (omega (arith, le, inside))) ∙ c.if-holder_answers.false))
    (cases_lt k c.loop-at.at)

pub returns-then-holder_answers-clause-answers : goal.returns-then-holder_answers-clause-answers
returns-then-holder_answers-clause-answers g c = λ told.
    let e : Mark = record { front = 0; item = 0; position = 0 } in
    let inside : c.loop-at.at < length c.args.holders.now.items = omega (arith, c.loop-at-test.true, c.near-near.ensures.inside, c.loop-at.auto.at-end) in
    (get_or c.args.holders.now.items c.loop-at.at e, Contains-get_or c.args.holders.now.items c.loop-at.at e inside, sym (c.holder_answers.ensures e inside) ∙ c.if-holder_answers.true)

pub returns-clause-none : goal.returns-clause-none
returns-clause-none g c = λ told m (k, inside, is) front.
    let near = c.near-near.ensures.around k m inside (ap (λ (x : Mark). x.front) is ∙ front ∙ sym c.front_of.ensures) in
    subst (λ (x : Mark). answers_at c.args.items.now c.args.challenge x.item ≡ false) is (c.loop-at.invariant k m near.0 (omega (arith, near.1, c.loop-at-test.false)) inside)
