use Rattle.std.proofs.Common.{◌≡◌, map, take}
use Rattle.authenticators.specs.Statement.{is_claim_signed}
use Rattle.authenticators.specs.within.Resolved.{stands}
use Rattle.authenticators.proofs.claims.resolve_all.Given as goal

abbrev pub invariant-loop-k : goal.invariant-loop-k
invariant-loop-k l = map stands l.all.items ≡ map (is_claim_signed l.directory) (take l.k l.claims)
