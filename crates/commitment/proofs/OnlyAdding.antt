-- Each call of a node only adds to what it keeps.
use Rattle.std.proofs.Common.{◌≡◌, ℕ, ◌+◌, Bool, true, false, cond, List, [], ◌∷◌, ◌++◌, Option, Some, None, Ok, Err, refl, sym, ap, ◌∙◌, append_assoc}
use Rattle.std.proofs.lemmas.List.{append-nil}
use Rattle.log_chain.specs.History.{unless}
use Rattle.commitment.specs.declared.fault.NodeFault.{NodeFault}
use Rattle.commitment.specs.declared.fault.NodeFault.TheVariants.{BadAck, NumberTaken}
use Rattle.messages.specs.declared.message.Ack.{Ack}
use Rattle.commitment.specs.declared.heard.Heard.{Heard}
use Rattle.messages.specs.declared.message.Message.{Message}
use Rattle.commitment.specs.Accounts.{Account, acknowledged, all_sent, logged, randomizer, received, sender_of, sent_next}
use Rattle.commitment.specs.Calls.{Given, Receive, Tick, Checkpoint, Acknowledge, Rekey, after_call, first_of_three_or_old, first_or_old, or_old, some_or_old}
use Rattle.commitment.specs.Growing.{CallsOnlyAdd, GrowsTo, OnlyAdds}
use Rattle.commitment.specs.Keyrings.{Keyring, next_ring}
use Rattle.commitment.specs.Limits.{room_fault}
use Rattle.messages.specs.Messages.{is_same_message, is_valid_ack}
use Rattle.commitment.specs.Nodes.{NodeState, accepts_for, begun_block, heard_of, message_fault, receipt, receives_new, receives_or, receives_unless, rekeyed_by, setting, tick, ticked}
use Rattle.replay_verifier.specs.declared.output.Output.{Output}
use Rattle.replay_verifier.specs.Conforming.{Act, sent_by}
use Rattle.replay_verifier.specs.Meaning.{Meaning}

-- ---- lists

same_list : {A : Type 0} (xs : List A) → GrowsTo xs xs
same_list xs = record { more = []; is = sym (append-nil xs) }

grows_then : {A : Type 0} (xs ys zs : List A) → GrowsTo xs ys → GrowsTo ys zs → GrowsTo xs zs
grows_then xs ys zs a b = record { more = a.more ++ b.more; is = b.is ∙ ap (λ t. t ++ b.more) a.is ∙ append_assoc xs a.more b.more }

-- ---- accounts

adds_nothing : (a : Account) → OnlyAdds a a
adds_nothing a = record { me = refl; entries = same_list a.entries; signed = same_list a.signed; sent = same_list a.sent; heard = same_list a.heard }

adds_then : (a b c : Account) → OnlyAdds a b → OnlyAdds b c → OnlyAdds a c
adds_then a b c p q = record {
  me = q.me ∙ p.me;
  entries = grows_then a.entries b.entries c.entries p.entries q.entries;
  signed = grows_then a.signed b.signed c.signed p.signed q.signed;
  sent = grows_then a.sent b.sent c.sent p.sent q.sent;
  heard = grows_then a.heard b.heard c.heard p.heard q.heard;
}

entry_adds : (a : Account) (x : Act) → OnlyAdds a (logged a x)
entry_adds a x = record { me = refl; entries = record { more = _; is = refl }; signed = same_list a.signed; sent = same_list a.sent; heard = same_list a.heard }

receipt_adds : (a : Account) (c : List ℕ) (m : Message) → OnlyAdds a (received a c m)
unfolding received
receipt_adds a c m = record { me = refl; entries = record { more = _; is = refl }; signed = record { more = _; is = refl }; sent = same_list a.sent; heard = record { more = _; is = refl } }

output_adds : (a : Account) (c : List ℕ) (o : Output) → OnlyAdds a (sent_next a c o)
unfolding sent_next
output_adds a c o = record { me = refl; entries = record { more = _; is = refl }; signed = record { more = _; is = refl }; sent = record { more = _; is = refl }; heard = same_list a.heard }

outputs_add : (a : Account) (entropy : List ℕ) (k : ℕ) (os : List Output) → OnlyAdds a (all_sent a entropy k os)
unfolding all_sent
outputs_add a entropy k [] = adds_nothing a
outputs_add a entropy k (o ∷ os) =
    let b = sent_next a (randomizer entropy k) o in
    adds_then a b (all_sent b entropy (k + 1) os) (output_adds a (randomizer entropy k) o) (outputs_add b entropy (k + 1) os)

-- ---- the same directory, and an account that only adds

record Grows {S : Type 0} (old new : NodeState S) : Type 0 where
  account : OnlyAdds old.account new.account
  directory : new.directory ≡ old.directory

grows_not : {S : Type 0} (n : NodeState S) → Grows n n
grows_not n = record { account = adds_nothing n.account; directory = refl }

-- ---- calls

module _ {S : Type 0} (p : Meaning S) where
  two_unless : {A : Type 0} (n new : NodeState S) (a : A) (fault : Option NodeFault) → Grows n new → Grows n (first_or_old n (unless fault (new, a)))
  two_unless n new a None h = h
  two_unless n new a (Some e) h = grows_not n

  three_unless : {A B : Type 0} (n new : NodeState S) (a : A) (b : B) (fault : Option NodeFault) → Grows n new → Grows n (first_of_three_or_old n (unless fault (new, a, b)))
  three_unless n new a b None h = h
  three_unless n new a b (Some e) h = grows_not n

  tick_grows : (n : NodeState S) (moment : ℕ) (entropy : List ℕ) → Grows n (first_or_old n (ticked p n moment entropy))
  unfolding ticked
  tick_grows n moment entropy =
      let outs = sent_by (setting p n) n.state (tick moment) in
      let first = begun_block p n (tick moment) in
      two_unless n _ _ (room_fault n.account _ _) (record { account = adds_then n.account first (all_sent first entropy 0 outs) (entry_adds n.account _) (outputs_add first entropy 0 outs); directory = refl })

  new_grows : (n : NodeState S) (m : Message) (entropy : List ℕ) → Grows n (first_of_three_or_old n (receives_new p n m entropy))
  unfolding receives_new
  new_grows n m entropy =
      let outs = sent_by (setting p n) n.state (receipt m) in
      let first = received n.account (randomizer entropy 0) m in
      three_unless n _ _ _ (room_fault n.account _ _) (record { account = adds_then n.account first (all_sent first entropy 1 outs) (receipt_adds n.account _ m) (outputs_add first entropy 1 outs); directory = refl })

  heard_grows : (n : NodeState S) (m : Message) (entropy : List ℕ) (h : Option Heard) → Grows n (first_of_three_or_old n (receives_unless p n m entropy h))
  heard_grows n m entropy None = new_grows n m entropy
  heard_grows n m entropy (Some h) = by_test (is_same_message h.message m)
    where
      by_test : (b : Bool) → Grows n (first_of_three_or_old {A = Ack} {B = List Message} {E = NodeFault} n (cond b (Ok (n, h.ack, [])) (Err NumberTaken)))
      by_test true = grows_not n
      by_test false = grows_not n

  receive_grows : (n : NodeState S) (m : Message) (entropy : List ℕ) (fault : Option NodeFault) → Grows n (first_of_three_or_old n (receives_or p n m entropy fault))
  receive_grows n m entropy None = heard_grows n m entropy (heard_of n.account (sender_of m))
  receive_grows n m entropy (Some e) = grows_not n

  ack_grows : (n : NodeState S) (a : Ack) (m : Option Message) → Grows n (or_old n (accepts_for n a m))
  ack_grows n a None = grows_not n
  ack_grows n a (Some m) = by_test (is_valid_ack n.directory m a)
    where
      by_test : (b : Bool) → Grows n (or_old n (cond b (Ok (record { directory = n.directory; account = acknowledged n.account a.send_seq; state = n.state })) (Err BadAck)))
      by_test true = record { account = record { me = refl; entries = same_list n.account.entries; signed = same_list n.account.signed; sent = same_list n.account.sent; heard = same_list n.account.heard }; directory = refl }
      by_test false = grows_not n

  key_grows : (n : NodeState S) (ring : Option Keyring) → Grows n (some_or_old n (rekeyed_by n ring))
  key_grows n None = grows_not n
  key_grows n (Some ring) = record { account = record { me = refl; entries = same_list n.account.entries; signed = same_list n.account.signed; sent = same_list n.account.sent; heard = same_list n.account.heard }; directory = refl }

  call_grows : (n : NodeState S) (x : Given) → Grows n (after_call p n x)
  call_grows n (Receive m entropy) = receive_grows n m entropy (message_fault n.directory n.account.me m)
  call_grows n (Tick moment entropy) = tick_grows n moment entropy
  call_grows n Checkpoint = two_unless n _ _ (room_fault n.account 0 1) (record { account = entry_adds n.account _; directory = refl })
  call_grows n (Acknowledge a) = ack_grows n a _
  call_grows n (Rekey key) = key_grows n (next_ring n.account.ring key)

pub calls_only_add : {S : Type 0} → CallsOnlyAdd S
calls_only_add = record { account = λ p n x. (call_grows p n x).account; directory = λ p n x. (call_grows p n x).directory }
