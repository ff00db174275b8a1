use Rattle.std.proofs.Common.{take}
use Rattle.explanations.specs.within.Telling.{AreTold}
use Rattle.explanations.proofs.telling.explanations_of.Given as goal

abbrev pub invariant-loop-row : goal.invariant-loop-row
invariant-loop-row g l = AreTold (take l.row-index l.whys) l.nodes.items
