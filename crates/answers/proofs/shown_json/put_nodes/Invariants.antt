use Rattle.std.proofs.Common.{◌≡◌, ◌++◌, codes}
use Rattle.std.specs.List.{join_by}
use Rattle.answers.specs.Json.{node_object}
use Rattle.answers.proofs.Joined.{left}
use Rattle.answers.proofs.shown_json.put_nodes.Given as goal

abbrev pub invariant-loop-node : goal.invariant-loop-node
invariant-loop-node l = l.text.items ++ left l.is_first node_object l.node-iterator ≡ l.initial.text.items ++ join_by node_object (codes ",") l.nodes.entries
