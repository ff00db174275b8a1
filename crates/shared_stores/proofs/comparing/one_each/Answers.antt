use Rattle.std.specs.List.{count_by}
use Rattle.std.proofs.Common.{◌≡◌, ◌==◌, arith, below_more, rules, sym, ◌∙◌}
use Rattle.shared_stores.specs.Histories.{Notes}
use Rattle.shared_stores.proofs.comparing.one_each.Goals as goal

pub returns : goal.returns
returns c = ((λ _. record { count = omega arith; each = λ k below. c.loop-k.invariant k (omega arith) }), (λ _. search rules))

pub returns-then-how_many-ne1 : goal.returns-then-how_many-ne1
returns-then-how_many-ne1 c = ((λ no. cc), (λ o. absurd (c.if-how_many-ne1.true (c.how_many.ensures ∙ o.each _ (omega arith)))))

pub loop-k-preserved : goal.loop-k-preserved
loop-k-preserved c = below_more (λ j. count_by (λ (p : Notes). p.number == j) c.args.passes.now ≡ 1) _ c.loop-k.invariant (sym c.how_many.ensures ∙ c.if-how_many-ne1.false)
