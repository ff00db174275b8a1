-- Answers are receipts.
use Rattle.std.proofs.Common.{◌≡◌, ℕ, Bool, true, false, cond, List, [], Option, Some, None, Result, Ok, Err, refl, sym, ap, ◌∙◌}
use Rattle.commitment.specs.declared.fault.NodeFault.{NodeFault}
use Rattle.commitment.specs.declared.fault.NodeFault.TheVariants.{NumberTaken}
use Rattle.messages.specs.declared.message.Ack.{Ack}
use Rattle.commitment.specs.declared.heard.Heard.{Heard}
use Rattle.messages.specs.declared.message.Message.{Message}
use Rattle.commitment.specs.Accounts.{sender_of}
use Rattle.messages.specs.Messages.{is_same_message}
use Rattle.commitment.specs.Nodes.{NodeState, heard_of, message_fault, receives, receives_or, receives_unless}
use Rattle.replay_verifier.specs.Meaning.{Meaning}
use Rattle.item_forms.specs.declared.forms.Fields.{Fields}
use Rattle.item_forms.specs.declared.forms.Fields.TheVariants as form
use Rattle.challenges.specs.Answers.{IsAcked, IsAnswered, RefusesMessage}
use Rattle.commitment.specs.Calls.{first_of_three_or_old}
use Rattle.node_runs.specs.Answering.{AnswersAreReceipts, after_answer}

module _ {S : Type 0} (p : Meaning S) where
  -- a repetition, and another message of its number, leave the node
  of_test : (n : NodeState S) (k : Ack) (b : Bool) → n ≡ first_of_three_or_old {A = Ack} {B = List Message} {E = NodeFault} n (cond b (Ok (n, k, [])) (Err NumberTaken))
  of_test n k true = refl
  of_test n k false = refl

  heard_leaves : (n : NodeState S) (m : Message) (entropy : List ℕ) (h : Heard) → n ≡ first_of_three_or_old n (receives_unless p n m entropy (Some h))
  heard_leaves n m entropy h = of_test n h.ack (is_same_message h.message m)

  known_leaves : (n : NodeState S) (m : Message) (entropy : List ℕ) (h : Heard) (fault : Option NodeFault) → heard_of n.account (sender_of m) ≡ Some h → n ≡ first_of_three_or_old n (receives_or p n m entropy fault)
  known_leaves n m entropy h None e = heard_leaves n m entropy h ∙ ap (λ (o : Option Heard). first_of_three_or_old n (receives_unless p n m entropy o)) (sym e)
  known_leaves n m entropy h (Some fault) e = refl

  acked : (old new : NodeState S) (m : Message) (entropy : List ℕ) (y : Fields) (sent : List Message) (h : Option Heard) → heard_of old.account (sender_of m) ≡ h
      → IsAcked p old m entropy new y sent h → new ≡ first_of_three_or_old old (receives p old m entropy)
  acked old new m entropy y sent None e is = sym (ap (first_of_three_or_old old) is.1)
  acked old new m entropy y sent (Some h) e is = is.0 ∙ known_leaves old m entropy h (message_fault old.directory old.account.me m) e

  answered : (old new : NodeState S) (x y : Fields) (entropy : List ℕ) (sent : List Message) → IsAnswered p old x entropy new y sent → new ≡ after_answer p old x entropy
  answered old new (form.Auth a) y entropy sent is = absurd is
  answered old new (form.Segment s) y entropy sent is = absurd is
  answered old new (form.Audit c) y entropy sent is = is.0
  answered old new (form.Send m) y entropy sent is = acked old new m entropy y sent (heard_of old.account (sender_of m)) refl is
  answered old new (form.Ack a) y entropy sent is = absurd is

  refused : (old : NodeState S) (x : Fields) (entropy : List ℕ) (why : NodeFault) → RefusesMessage p old x entropy why → old ≡ after_answer p old x entropy
  refused old (form.Auth a) entropy why is = refl
  refused old (form.Segment s) entropy why is = refl
  refused old (form.Audit c) entropy why is = refl
  refused old (form.Send m) entropy why is = sym (ap (first_of_three_or_old old) is)
  refused old (form.Ack a) entropy why is = refl

pub are_receipts : {S : Type 0} → AnswersAreReceipts S
are_receipts {S} = record { answered = λ p. answered p; refused = λ p. refused p }
