use Rattle.std.proofs.Common.{◌≡◌, map, take}
use Rattle.authenticators.specs.within.Noted.{point_of}
use Rattle.authenticators.proofs.noting.points_of.Given as goal

abbrev pub invariant-loop-statement : goal.invariant-loop-statement
invariant-loop-statement l = l.points.items ≡ map point_of (take l.statement-index l.statements)
