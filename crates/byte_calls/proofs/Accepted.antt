-- A node accepts an acknowledgement that is evidence, of a message that it sent.
use Rattle.std.proofs.Common.{◌≡◌, ℕ, List, Bool, true, false, Option, Some, None, Result, Ok, Err, refl, sym, subst, ap, ◌∙◌}
use Rattle.std.specs.Prelude.{◌==◌, not, nat_eq}
use Rattle.std.specs.Map.{lookup}
use Rattle.std.proofs.lemmas.Bool.{and_from, and_parts, cond-true, eq-eqb, eqb-true, false≢true, ne_eqb, not_from_false}
use Rattle.std.proofs.lemmas.Slice.Eq.{bytes_eq-Decides}
use Rattle.authenticators.specs.Directory.{Listing}
use Rattle.authenticators.specs.Statement.{TestsStatements}
use Rattle.commitment.specs.declared.fault.NodeFault.{NodeFault}
use Rattle.commitment.specs.declared.fault.NodeFault.TheVariants.{BadAck}
use Rattle.messages.specs.declared.message.Ack.{Ack}
use Rattle.messages.specs.declared.message.Message.{Message}
use Rattle.messages.specs.Messages.{is_same_message, is_valid_ack, received_hash}
use Rattle.commitment.specs.Nodes.{NodeState, accepts, accepts_for}
use Rattle.item_forms.specs.declared.forms.AckItem.{AckItem}
use Rattle.evidence_item.specs.Validity.{IsValidAckItem}
use Rattle.byte_calls.specs.Nodes.{answered_by, is_as_sent, is_sent}

pub same_message : (m n : Message) → is_same_message m n ≡ true → m ≡ n
same_message m n h =
    let payload = and_parts _ _ h in
    let sig = and_parts _ _ payload.0 in
    let prev = and_parts _ _ sig.0 in
    let seq = and_parts _ _ prev.0 in
    let to = and_parts _ _ seq.0 in
    let e0 : m.from ≡ n.from = eqb-true m.from n.from to.0 in
    let e1 : m.to ≡ n.to = eqb-true m.to n.to to.1 in
    let e2 : m.seq ≡ n.seq = eqb-true m.seq n.seq seq.1 in
    let e3 : m.prev ≡ n.prev = (bytes_eq-Decides m.prev n.prev).0 prev.1 in
    let e4 : m.sig ≡ n.sig = (bytes_eq-Decides m.sig n.sig).0 sig.1 in
    let e5 : m.payload ≡ n.payload = (bytes_eq-Decides m.payload n.payload).0 payload.1 in
    λ i. record { from = e0 i; to = e1 i; seq = e2 i; prev = e3 i; sig = e4 i; payload = e5 i }

-- What the acknowledgement says without its message.
abbrev pub ack_by : AckItem → Ack
ack_by a = record { from = a.message.to; send_seq = a.message.seq; seq = a.seq; prev = a.prev; sig = a.sig }

valid_by : TestsStatements → (ds : Listing) (a : AckItem) → IsValidAckItem ds a → is_valid_ack ds a.message (ack_by a) ≡ true
valid_by tests ds a valid =
    let m = a.message in
    let other : not (m.from == m.to) ≡ true = not_from_false (m.from == m.to) (ne_eqb m.from m.to valid.message.genuine.other) in
    let signed = (tests ds m.to a.seq (received_hash m (ack_by a)) a.sig).1 valid.signed in
    and_from _ _ (and_from _ _ (and_from _ _ (eq-eqb m.to m.to refl) other) (eq-eqb m.seq m.seq refl)) signed

accepts_of : {S : Type 0} (n : NodeState S) (a : AckItem) (o : Option Message) → is_as_sent a.message o ≡ true → is_valid_ack n.directory a.message (ack_by a) ≡ true
    → accepts_for n (ack_by a) o ≡ Ok (answered_by n a.message.seq)
accepts_of n a None sent valid = absurd (false≢true sent)
accepts_of n a (Some m) sent valid =
    let same : m ≡ a.message = same_message m a.message sent in
    cond-true (is_valid_ack n.directory m (ack_by a)) (Ok (answered_by n a.message.seq)) (Err BadAck)
    (subst (λ (x : Message). is_valid_ack n.directory x (ack_by a) ≡ true) (sym same) valid)

pub accepts_sent : {S : Type 0} → TestsStatements → (n : NodeState S) (a : AckItem) → is_sent n a.message ≡ true → IsValidAckItem n.directory a → accepts n (ack_by a) ≡ Ok (answered_by n a.message.seq)
accepts_sent tests n a sent valid = accepts_of n a (lookup (nat_eq a.message.seq) n.account.sent) sent (valid_by tests n.directory a valid)

found_of : (m : Message) (o : Option Message) → is_as_sent m o ≡ true → o ≡ Some m
found_of m None sent = absurd (false≢true sent)
found_of m (Some x) sent = ap (λ (y : Message). Some y) (same_message x m sent)

pub found_sent : {S : Type 0} (n : NodeState S) (m : Message) → is_sent n m ≡ true → lookup (nat_eq m.seq) n.account.sent ≡ Some m
found_sent n m sent = found_of m (lookup (nat_eq m.seq) n.account.sent) sent

-- It is not refused then. The directory is lent by the node.
pub not_refused : {S : Type 0} → TestsStatements → (n : NodeState S) (ds : Listing) (a : AckItem) (e : NodeFault)
    → ds ≡ n.directory → is_sent n a.message ≡ true → IsValidAckItem ds a → accepts n (ack_by a) ≡ Err e → ⊥
not_refused tests n ds a e same sent valid refused =
    let clash = sym (accepts_sent tests n a sent (subst (λ (d : Listing). IsValidAckItem d a) same valid)) ∙ refused in
    cc
