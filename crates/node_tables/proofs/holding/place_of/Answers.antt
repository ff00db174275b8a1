use Rattle.std.proofs.Common.{◌≡◌, ◌<◌, ◌≤◌, false, arith, get_or, subst, sym, ⊎_elim, ◌∙◌}
use Rattle.std.proofs.lemmas.Bool.{cases_lt}
use Rattle.node_tables.specs.Hashed.{link_at}
use Rattle.node_tables.specs.within.Marking.{has_hash}
use Rattle.node_tables.proofs.Holders.{none_holds}
use Rattle.node_tables.proofs.holding.place_of.Goals as goal

pub near-near-requires : goal.near-near-requires
near-near-requires g c = c.requires.order

pub loop-at-init : goal.loop-at-init
loop-at-init g c = λ k d lo hi inside. absurd (omega (arith, lo, hi))

pub loop-at-preserved : goal.loop-at-preserved
loop-at-preserved g c = λ k d lo hi inside. ⊎_elim
    (λ (first : k < c.loop-at.at). c.loop-at.invariant k d lo first inside)
    (λ (le : c.loop-at.at ≤ k).
    let same : c.loop-at.at ≡ k = omega (arith, le, hi) in
    subst (λ n. has_hash (link_at c.args.items.now (get_or c.args.holders.now.items n d).item (get_or c.args.holders.now.items n d).position) c.args.hash ≡ false) same
    (sym (c.has_hash_at.ensures d (omega (arith, le, inside))) ∙ c.if-has_hash_at.false))
    (cases_lt k c.loop-at.at)

pub returns-clause-none : goal.returns-clause-none
returns-clause-none g c = none_holds c.args.items.now c.args.node c.args.mark.item c.args.mark.position c.args.holders.now.items c.requires c.args.hash c.near-near.result.start c.near-near.result.end
    (λ k d inside is. c.near-near.ensures.around k d inside (is ∙ sym c.front_of.ensures))
    (λ k d lo hi inside. c.loop-at.invariant k d lo (omega (arith, hi, c.loop-at-test.false)) inside)
