use Rattle.std.proofs.Common.{◌≡◌, take}
use Rattle.std.specs.List.{flat_map}
use Rattle.evidence_item.specs.within.Stating.{claims_in}
use Rattle.evidence_item.proofs.examining.claims_in.Given as goal

abbrev pub invariant-loop-stage : goal.invariant-loop-stage
invariant-loop-stage l = l.claims.items ≡ flat_map claims_in (take l.stage-index l.stages)
