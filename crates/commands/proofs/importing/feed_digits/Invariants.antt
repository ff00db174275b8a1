use Rattle.std.proofs.Common.{◌≡◌, List, Ok, length, ℕ}
use Rattle.hex.specs.Hex.{decode_of}
use Rattle.commands.specs.within.Feeding.{IsFedUpTo}
use Rattle.commands.proofs.importing.feed_digits.Given as goal

abbrev pub invariant-loop-rest : goal.invariant-loop-rest
invariant-loop-rest g l = (l.importer.directory ≡ l.initial.importer.directory) × ((bytes : List ℕ) → decode_of l.digits ≡ Ok bytes → IsFedUpTo l.initial.importer.fed l.importer.fed l.rest bytes)

abbrev pub decreases-loop-rest : goal.decreases-loop-rest
decreases-loop-rest g l = length l.rest
