use Rattle.std.proofs.Common.{ap, ◌∙◌}
use Rattle.parallel_map.proofs.Turns.{drew, missed}
use Rattle.parallel_map.proofs.workers.work_all.Goals as goal
use Rattle.parallel_map.proofs.workers.work_all.Goals.{then-found-saw, else-found-saw}

pub loop-turn-preserved : goal.loop-turn-preserved
loop-turn-preserved g c =
    elim c.if-found-saw.branch [
      | then-found-saw w ↦
          rw w.saw-is (drew _ _ _ _ _ _ _ c.loop-turn.invariant c.draw-found.ensures.table.0 c.draw-found.ensures.table.1 _ c.draw-found.ensures.drew w.if-found-saw.true _ (record { met = w.work-value.ensures }) _
          _ c.reserve.ensures.items (ap (λ v. v.items) w.placed-is ∙ w.push_reserved.ensures.items))
      | else-found-saw w ↦
          rw w.saw-is (missed _ _ _ _ _ _ _ c.loop-turn.invariant c.draw-found.ensures.table.0 c.draw-found.ensures.table.1 _ c.draw-found.ensures.drew w.if-found-saw.false _ (ap (λ v. v.items) w.placed-is ∙ c.reserve.ensures.items))
    ]
