use Rattle.std.proofs.Common.{◌≡◌, ◌++◌, length}
use Rattle.sentences.specs.Bases.{groups}
use Rattle.sentences.proofs.basis.put_groups.Given as goal

-- what is written, and the groups that are left
abbrev pub invariant-loop-left : goal.invariant-loop-left
invariant-loop-left l = l.text.items ++ groups l.left ≡ l.initial.text.items ++ groups l.fn.bytes

abbrev pub decreases-loop-left : goal.decreases-loop-left
decreases-loop-left l = length l.left
