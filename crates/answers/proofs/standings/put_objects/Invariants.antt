use Rattle.std.proofs.Common.{◌≡◌, ◌++◌, codes}
use Rattle.std.specs.List.{join_by}
use Rattle.answers.specs.Json.{standing_object}
use Rattle.answers.proofs.Joined.{left}
use Rattle.answers.proofs.standings.put_objects.Given as goal

abbrev pub invariant-loop-node : goal.invariant-loop-node
invariant-loop-node l = l.text.items ++ left l.is_first standing_object l.node-iterator ≡ l.initial.text.items ++ join_by standing_object (codes ",") l.standings.entries
