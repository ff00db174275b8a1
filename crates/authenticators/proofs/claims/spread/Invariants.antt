use Rattle.std.proofs.Common.{◌≡◌, map, take, drop}
use Rattle.std.specs.List.{flat_map}
use Rattle.lms_sign.specs.SignedMessages.{is_signed}
use Rattle.authenticators.specs.within.Resolved.{signed_in, stands}
use Rattle.authenticators.proofs.claims.spread.Given as goal

-- So far all are answered, and the answers that are left are those of the others.
abbrev pub invariant-loop-k : goal.invariant-loop-k
invariant-loop-k l = (l.answers.items ≡ map stands (take l.k l.all)) × (drop l.at l.verified ≡ map is_signed (flat_map signed_in (drop l.k l.all)))
