-- What an answer to a challenge does to a node (PeerReview, SOSP 2007: the challenge/response protocol).
use Rattle.std.specs.Prelude.{◌≡◌, ℕ, List}
use Rattle.challenges.specs.Answers.{IsAnswered, RefusesMessage}
use Rattle.commitment.specs.Calls.{Receive, after_call}
use Rattle.commitment.specs.declared.fault.NodeFault.{NodeFault}
use Rattle.commitment.specs.Nodes.{NodeState}
use Rattle.item_forms.specs.declared.forms.Fields.{Fields}
use Rattle.item_forms.specs.declared.forms.Fields.TheVariants as form
use Rattle.messages.specs.declared.message.Message.{Message}
use Rattle.replay_verifier.specs.Meaning.{Meaning}

-- What the node is after it answered the item with this entropy.
abbrev pub after_answer : {S : Type 0} → Meaning S → NodeState S → Fields → List ℕ → NodeState S
after_answer p n (form.Auth a) entropy = n
after_answer p n (form.Segment s) entropy = n
after_answer p n (form.Audit c) entropy = n
after_answer p n (form.Send m) entropy = after_call p n (Receive m entropy)
after_answer p n (form.Ack a) entropy = n

-- ---- a law, which `answers_are_receipts` proves

-- A node that answers a challenge becomes what `after_answer` says. If it refuses to receive the challenge's message,
-- `after_answer` leaves it as it was.
pub record AnswersAreReceipts (S : Type 0) : Type 0 where
  pub answered : (p : Meaning S) (old new : NodeState S) (x y : Fields) (entropy : List ℕ) (sent : List Message) → IsAnswered p old x entropy new y sent → new ≡ after_answer p old x entropy
  pub refused : (p : Meaning S) (old : NodeState S) (x : Fields) (entropy : List ℕ) (why : NodeFault) → RefusesMessage p old x entropy why → old ≡ after_answer p old x entropy
