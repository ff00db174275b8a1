use Rattle.std.proofs.Common.{◌≡◌, ◌≤◌, length, map, drop}
use Rattle.std.specs.List.{flat_map}
use Rattle.authenticators.specs.Statement.{is_claim_signed}
use Rattle.evidence_item.specs.within.Stating.{claims_in}
use Rattle.evidence_item.proofs.Examinations.{Beside, IsSettled}
use Rattle.evidence_item.proofs.examining.examine_all.Given as goal

-- So far all items are examined, and the answers that are left are those of the others.
abbrev pub invariant-loop-k : goal.invariant-loop-k
invariant-loop-k l =
    (l.at ≤ length l.answers.items) × (drop l.at l.answers.items ≡ map (is_claim_signed l.directory) (flat_map claims_in (drop l.k l.stages.items)))
    × Beside (λ x e. IsSettled l.directory x e) l.k l.items l.all.items
