use Rattle.std.proofs.Common.{ℕ, Global, Vec, ap, ◌∙◌}
use Rattle.parallel_checking.proofs.Placing.{read_is, want_more, want_same}
use Rattle.parallel_checking.proofs.again.wanting.Goals as goal
use Rattle.parallel_checking.proofs.again.wanting.Goals.{then-wants+in_ok-push, else-wants}

pub loop-n-preserved : goal.loop-n-preserved
loop-n-preserved g c =
    elim c.if-wants.branch [
      | then-wants+in_ok-push w ↦ want_more _ _ _ _ c.loop-n.invariant
          (record { below = c.loop-n-test.true; wants = read_is _ _ _ _ c.loop-n-test.true c.index-results-n.is c.wants.ensures ∙ w.if-wants.true })
          (ap (λ (v : Vec ℕ Global). v.items) w.places-is ∙ w.in_ok-push.ensures.items)
      | else-wants w ↦ want_same _ _ _ _ c.loop-n.invariant (read_is _ _ _ _ c.loop-n-test.true c.index-results-n.is c.wants.ensures ∙ w.if-wants.false)
          (ap (λ (v : Vec ℕ Global). v.items) w.places-is)
    ]
