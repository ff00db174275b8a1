use Rattle.std.proofs.Common.{◌≡◌, ℕ, ◌<◌, ◌==◌}
use Rattle.std.specs.List.{count_by}
use Rattle.shared_stores.specs.Histories.{Notes}
use Rattle.shared_stores.proofs.comparing.one_each.Given as goal

abbrev pub invariant-loop-k : goal.invariant-loop-k
invariant-loop-k l = (j : ℕ) → j < l.k → count_by (λ (p : Notes). p.number == j) l.passes ≡ 1
