use Rattle.std.proofs.Common.{◌≡◌, length}
use Rattle.scenarios.specs.Scenarios.{lines_of, lines_taken, nothing}
use Rattle.scenarios.proofs.draft.Draft.read.Given as goal

abbrev pub decreases-loop-line : goal.decreases-loop-line
decreases-loop-line l = length l.rest

abbrev pub invariant-loop-line : goal.invariant-loop-line
invariant-loop-line l = lines_taken nothing (lines_of l.fn.text) ≡ lines_taken l.draft (lines_of l.rest)
