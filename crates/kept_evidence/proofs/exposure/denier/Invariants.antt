use Rattle.std.proofs.Common.{◌≡◌, false, take}
use Rattle.std.specs.List.{list_any}
use Rattle.proofs.specs.Contradictions.{contradicts}
use Rattle.kept_evidence.proofs.exposure.denier.Given as goal

abbrev pub invariant-loop-a : goal.invariant-loop-a
invariant-loop-a l = list_any (λ a. contradicts a.seq a.hash l.segment) (take l.a-index l.held) ≡ false
