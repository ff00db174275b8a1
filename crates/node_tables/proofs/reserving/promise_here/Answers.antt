use Rattle.std.proofs.Common.{arith, rules}
use Rattle.node_tables.proofs.reserving.promise_here.Goals as goal

pub returns-clause-ok : goal.returns-clause-ok
returns-clause-ok c = record { roomier = search rules; statements = omega arith; rows = λ h. omega (arith, c.in_ok-reserve.ensures.room); bodies = omega arith; spans = λ h. absurd (omega (arith, h)); unanswered = λ h. absurd (omega (arith, h)) }
