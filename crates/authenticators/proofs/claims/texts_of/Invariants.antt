use Rattle.std.proofs.Common.{◌≡◌, map, take}
use Rattle.authenticators.specs.Statement.{statement_text}
use Rattle.authenticators.proofs.claims.texts_of.Given as goal

abbrev pub invariant-loop-claim : goal.invariant-loop-claim
invariant-loop-claim l = l.texts.items ≡ map (λ c. statement_text c.seq c.hash) (take l.claim-index l.claims)
