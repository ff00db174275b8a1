use Rattle.std.proofs.Common.{◌≡◌, take}
use Rattle.std.specs.List.{flat_map}
use Rattle.authenticators.specs.within.Resolved.{signed_in}
use Rattle.authenticators.proofs.claims.signed_in.Given as goal

abbrev pub invariant-loop-one : goal.invariant-loop-one
invariant-loop-one l = l.signed.items ≡ flat_map signed_in (take l.one-index l.all)
