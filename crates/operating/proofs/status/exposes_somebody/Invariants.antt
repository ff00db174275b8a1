use Rattle.std.proofs.Common.{◌<◌, ℕ, get_or}
use Rattle.std.specs.Prelude.{IsTrue}
use Rattle.evidence_set.specs.Indications.{IsExposed}
use Rattle.operating.specs.Questions.{is_asked}
use Rattle.operating.proofs.status.exposes_somebody.Given as goal

abbrev pub invariant-loop-node : goal.invariant-loop-node
invariant-loop-node g l =
    (k : ℕ) → k < l.node-index → ¬ (IsTrue (is_asked l.scope (get_or l.node-items k 0)) × IsExposed (g.S.Evidence.contents l.store).directory g.P.Program.means (g.S.Evidence.contents l.store).items (get_or l.node-items k 0))
