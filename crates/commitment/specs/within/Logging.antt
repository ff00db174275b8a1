-- What is logged as a block, and what a call that logs a block reports.
use Rattle.std.specs.Prelude.{◌≡◌, ◌≤◌, ◌⊎◌, List, length, Option, None, Some, Result, Err, IfOk, IfErr, OnErr}
use Rattle.std.specs.List.{All}
use Rattle.replay_verifier.specs.declared.limits.TheConstants.{LONGEST_PAYLOAD, MOST_OUTPUTS}
use Rattle.replay_verifier.specs.declared.output.Output.{Output}
use Rattle.replay_verifier.specs.Quotes.{IsQuote}
use Rattle.commitment.specs.declared.fault.NodeFault.{NodeFault}
use Rattle.commitment.specs.declared.fault.NodeFault.TheVariants.{Memory}
use Rattle.messages.specs.declared.message.Message.{Message}
use Rattle.commitment.specs.Accounts.{Account, sender_of}
use Rattle.messages.specs.Messages.{quote}
use Rattle.commitment.specs.Nodes.{heard_of}

-- The outputs of a step are few enough, and each is short enough, for one block.
pub record FitBlock (outputs : List Output) : Type 0 where
  pub count : length outputs ≤ MOST_OUTPUTS
  pub payloads : All (λ o. length o.payload ≤ LONGEST_PAYLOAD) outputs

-- The message is to this node, an entry can quote it, and none of its sender and number was received.
pub record IsNewTo (a : Account) (m : Message) : Type 0 where
  pub to : m.to ≡ a.me
  pub fits : IsQuote (quote m)
  pub unheard : heard_of a (sender_of m) ≡ None

-- If something forbids the call, the call reports it, with or without memory. Else it refuses only if memory runs out. A refusal leaves
-- the account as it was.
pub record RefusesFor {A : Type 0} (fault : Option NodeFault) (result : Result A NodeFault) (old new : Account) : Type 0 where
  pub allowed : IfOk result (λ _. fault ≡ None)
  pub told : (e : NodeFault) → fault ≡ Some e → result ≡ Err e
  pub refused : IfErr result (λ e. (e ≡ Memory) ⊎ (fault ≡ Some e))
  pub unchanged : OnErr result (new ≡ old)
