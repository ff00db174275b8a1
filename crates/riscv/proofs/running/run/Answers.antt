use Rattle.std.proofs.Common.{inl, inr, sym, ◌∙◌}
use Rattle.riscv.proofs.Runs.{run-ended, run-trapped, run-none, run-more}
use Rattle.riscv.proofs.running.run.Goals as goal

pub returns-in-Ended : goal.returns-in-Ended
returns-in-Ended c =
    sym c.loop-left.invariant ∙ elim c.in-Ended.is [ inl e ↦ run-ended _ _ _ _ _ e | inr t ↦ run-trapped _ _ _ t.0 t.1 _ _ t.2 ]

pub loop-left-preserved : goal.loop-left-preserved
loop-left-preserved c =
    sym (run-more _ _ _ _ _ _ _ c.loop-left-test.true c.in-At.is c.step-next.ensures) ∙ c.loop-left.invariant

pub returns-after-loop-left : goal.returns-after-loop-left
returns-after-loop-left c = sym c.loop-left.invariant ∙ run-none _ _ _ _ _ c.loop-left-test.false
