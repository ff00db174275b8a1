-- What a node is given by an input.
use Rattle.commitment.specs.Calls.{Given, Receive, Tick, Checkpoint, Acknowledge, Rekey}
use Rattle.node_journals.specs.declared.giving.Input.{Input}
use Rattle.node_journals.specs.declared.giving.Input.TheVariants as input

abbrev pub given_by : Input → Given
given_by (input.Receive message entropy) = Receive message entropy
given_by (input.Tick moment entropy) = Tick moment entropy
given_by input.Checkpoint = Checkpoint
given_by (input.Acknowledge ack) = Acknowledge ack
given_by (input.Rekey key) = Rekey key
