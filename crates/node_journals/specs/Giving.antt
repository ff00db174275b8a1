-- What a node is given by a record, and what it answers.
use Rattle.std.specs.Prelude.{ℕ, List, Option, Some, None, option_map, Result, Ok, Err}
use Rattle.messages.specs.declared.message.Ack.{Ack}
use Rattle.messages.specs.declared.message.Message.{Message}
use Rattle.commitment.specs.declared.fault.NewFault.{NewFault}
use Rattle.commitment.specs.declared.fault.NewFault.TheVariants.{WrongKey}
use Rattle.commitment.specs.declared.fault.NodeFault.{NodeFault}
use Rattle.commitment.specs.Calls.{Given, Receive, Tick, Checkpoint, Acknowledge, Rekey}
use Rattle.commitment.specs.Nodes.{NodeState, accepts, checkpointed, receives, rekeyed, ticked}
use Rattle.replay_verifier.specs.Meaning.{Meaning}
use Rattle.node_journals.specs.declared.giving.Reply.{Reply}
use Rattle.node_journals.specs.declared.giving.Reply.TheVariants as reply
use Rattle.node_journals.specs.declared.recorded.Recorded.{Recorded}
use Rattle.node_journals.specs.declared.recorded.Recorded.TheVariants.{Acknowledged, Checkpointed, Received, Rekeyed, Ticked}
use Rattle.node_journals.specs.declared.keys.Secret.{Secret}
use Rattle.node_journals.specs.Keys.{key_for}

-- ---- what is given

-- What a record gives a node, or None if it names a key that none of the secrets makes.
abbrev pub given_of : List Secret → Recorded → Option Given
given_of secrets (Received m entropy) = Some (Receive m entropy)
given_of secrets (Ticked moment entropy) = Some (Tick moment entropy)
given_of secrets Checkpointed = Some Checkpoint
given_of secrets (Acknowledged a) = Some (Acknowledge a)
given_of secrets (Rekeyed key) = option_map Rekey (key_for secrets key)

-- ---- what is answered

-- What a call answers, without the node.
pub data Answer : Type 0 where
  -- an acknowledgement, and the messages that are sent
  AnswerReceived : Ack → List Message → Answer
  -- the messages that are sent
  AnswerTicked : List Message → Answer
  -- the checkpoint's number
  AnswerCheckpointed : ℕ → Answer
  AnswerAcknowledged : Answer
  AnswerRekeyed : Answer
  -- the call was refused
  AnswerRefused : NodeFault → Answer
  AnswerKeyRefused : NewFault → Answer

-- What a reply says.
abbrev pub said : Reply → Answer
said (reply.Received ack messages) = AnswerReceived ack messages.items
said (reply.Ticked messages) = AnswerTicked messages.items
said (reply.Checkpointed seq) = AnswerCheckpointed seq
said reply.Acknowledged = AnswerAcknowledged
said reply.Rekeyed = AnswerRekeyed
said (reply.Refused fault) = AnswerRefused fault
said (reply.KeyRefused fault) = AnswerKeyRefused fault

-- The answer that the result of receiving a message makes.
abbrev pub of_receipt : {S : Type 0} → Result (NodeState S × Ack × List Message) NodeFault → Answer
of_receipt (Ok x) = AnswerReceived x.1 x.2
of_receipt (Err e) = AnswerRefused e

-- The answer that the result of a tick makes.
abbrev pub of_tick : {S : Type 0} → Result (NodeState S × List Message) NodeFault → Answer
of_tick (Ok x) = AnswerTicked x.1
of_tick (Err e) = AnswerRefused e

-- The answer that the result of a checkpoint makes.
abbrev pub of_checkpoint : {S : Type 0} → Result (NodeState S × ℕ) NodeFault → Answer
of_checkpoint (Ok x) = AnswerCheckpointed x.1
of_checkpoint (Err e) = AnswerRefused e

-- The answer that the result of accepting an acknowledgement makes.
abbrev pub of_acceptance : {S : Type 0} → Result (NodeState S) NodeFault → Answer
of_acceptance (Ok x) = AnswerAcknowledged
of_acceptance (Err e) = AnswerRefused e

-- The answer that the result of a further key makes.
abbrev pub of_rekeying : {S : Type 0} → Option (NodeState S) → Answer
of_rekeying (Some x) = AnswerRekeyed
of_rekeying None = AnswerKeyRefused WrongKey

-- What the node's own call answers to what it is given.
abbrev pub answer_to : {S : Type 0} → Meaning S → NodeState S → Given → Answer
answer_to p n (Receive m entropy) = of_receipt (receives p n m entropy)
answer_to p n (Tick moment entropy) = of_tick (ticked p n moment entropy)
answer_to p n Checkpoint = of_checkpoint (checkpointed p n)
answer_to p n (Acknowledge a) = of_acceptance (accepts n a)
answer_to p n (Rekey key) = of_rekeying (rekeyed n key)
