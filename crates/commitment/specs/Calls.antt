-- What a node is given by a call, and the node after the call.
use Rattle.std.specs.Prelude.{ℕ, List, Option, Some, None, Result, Ok, Err}
use Rattle.lms_sign.specs.Signing.{PrivateKey}
use Rattle.messages.specs.declared.message.Ack.{Ack}
use Rattle.messages.specs.declared.message.Message.{Message}
use Rattle.commitment.specs.Nodes.{NodeState, accepts, checkpointed, receives, rekeyed, ticked}
use Rattle.replay_verifier.specs.Meaning.{Meaning}

-- What a node is given by one call.
pub data Given : Type 0 where
  -- For `receive`: a message, and the call's entropy.
  Receive : Message → List ℕ → Given
  -- For `timer`: a moment, and the call's entropy.
  Tick : ℕ → List ℕ → Given
  -- For `checkpoint`: nothing.
  Checkpoint : Given
  -- For `accept_ack`: an acknowledgement.
  Acknowledge : Ack → Given
  -- For `next_key`: a key.
  Rekey : PrivateKey → Given

-- The node of a call's answer, or the old node if the call refused.
abbrev pub or_old : {S E : Type 0} → S → Result S E → S
or_old old (Ok new) = new
or_old old (Err e) = old

-- The same for an answer with one further result.
abbrev pub first_or_old : {S A E : Type 0} → S → Result (S × A) E → S
first_or_old old (Ok new) = new.0
first_or_old old (Err e) = old

-- The same for an answer with two further results.
abbrev pub first_of_three_or_old : {S A B E : Type 0} → S → Result (S × A × B) E → S
first_of_three_or_old old (Ok new) = new.0
first_of_three_or_old old (Err e) = old

-- The same for an answer that may be missing.
abbrev pub some_or_old : {S : Type 0} → S → Option S → S
some_or_old old (Some new) = new
some_or_old old None = old

-- The node after the call.
abbrev pub after_call : {S : Type 0} → Meaning S → NodeState S → Given → NodeState S
after_call p n (Receive m entropy) = first_of_three_or_old n (receives p n m entropy)
after_call p n (Tick moment entropy) = first_or_old n (ticked p n moment entropy)
after_call p n Checkpoint = first_or_old n (checkpointed p n)
after_call p n (Acknowledge a) = or_old n (accepts n a)
after_call p n (Rekey key) = some_or_old n (rekeyed n key)
