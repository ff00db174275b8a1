use Rattle.std.proofs.Common.{length}
use Rattle.std.specs.Prelude.{◌↔◌}
use Rattle.commands.specs.HexLines.{lines_of}
use Rattle.commands.specs.within.Feeding.{AreDigits}
use Rattle.commands.proofs.lines.are_hex.Given as goal

abbrev pub invariant-loop-line : goal.invariant-loop-line
invariant-loop-line l = AreDigits (lines_of l.text) ↔ AreDigits (lines_of l.rest)

abbrev pub decreases-loop-line : goal.decreases-loop-line
decreases-loop-line l = length l.rest
