-- What lies behind handles, before and after a call.
use Rattle.std.specs.Prelude.{◌≡◌, ◌⊎◌, ⊤, ℕ, List, Option, Some, None, length}
use Rattle.mailbox.specs.MailboxMeaning.{mailbox}
use Rattle.mailbox.specs.declared.held.Held.{Held}
use Rattle.ref_programs.specs.TallyMeaning.{tally}
use Rattle.ref_programs.specs.RelayMeaning.{relay}
use Rattle.replay_verifier.specs.Meaning.{Meaning}
use Rattle.commitment.specs.Nodes.{NodeState}
use Rattle.evidence.specs.Contents.{Contents}
use Rattle.byte_calls.specs.declared.refusal.Refusal.{Refusal}
use Rattle.byte_calls.specs.declared.refusal.Refusal.TheVariants as refusal
use Rattle.byte_calls.specs.Refusals.{number_of as refusal_number}
use Rattle.bulwynef_c.specs.declared.programs.Followed.{Followed}
use Rattle.bulwynef_c.specs.declared.programs.Followed.TheVariants.{Tally, Relay, Mailbox}
use Rattle.bulwynef_c.specs.declared.object.Object.{Object}
use Rattle.bulwynef_c.specs.declared.object.Object.TheVariants as object

-- ---- one object

-- The object is a store. The program that its nodes follow and its contents have the property.
abbrev pub IsStore : ((S : Type 0) → Meaning S → Contents → Type 0) → Object → Type 0
IsStore P (object.TallyStore s d) = P ℕ tally s
IsStore P (object.RelayStore s d) = P ℕ relay s
IsStore P (object.MailboxStore s d) = P Held mailbox s
IsStore P (object.TallyNode n) = ⊥
IsStore P (object.RelayNode n) = ⊥
IsStore P (object.MailboxNode n) = ⊥
IsStore P (object.Text t) = ⊥

-- The object is a store. The program that its nodes follow, the sum that is kept of its directory's encoding, and its contents have the
-- property.
abbrev pub IsStoreUnder : ((p : Followed) → List ℕ → Contents → Type 0) → Object → Type 0
IsStoreUnder P (object.TallyStore s d) = P Tally d s
IsStoreUnder P (object.RelayStore s d) = P Relay d s
IsStoreUnder P (object.MailboxStore s d) = P Mailbox d s
IsStoreUnder P (object.TallyNode n) = ⊥
IsStoreUnder P (object.RelayNode n) = ⊥
IsStoreUnder P (object.MailboxNode n) = ⊥
IsStoreUnder P (object.Text t) = ⊥

-- The object is a node. The program that it follows and the node have the property.
abbrev pub IsNode : ((S : Type 0) → Meaning S → NodeState S → Type 0) → Object → Type 0
IsNode P (object.TallyStore s d) = ⊥
IsNode P (object.RelayStore s d) = ⊥
IsNode P (object.MailboxStore s d) = ⊥
IsNode P (object.TallyNode n) = P ℕ tally n
IsNode P (object.RelayNode n) = P ℕ relay n
IsNode P (object.MailboxNode n) = P Held mailbox n
IsNode P (object.Text t) = ⊥

-- The object is a text with the property.
abbrev pub IsText : (List ℕ → Type 0) → Object → Type 0
IsText P (object.TallyStore s d) = ⊥
IsText P (object.RelayStore s d) = ⊥
IsText P (object.MailboxStore s d) = ⊥
IsText P (object.TallyNode n) = ⊥
IsText P (object.RelayNode n) = ⊥
IsText P (object.MailboxNode n) = ⊥
IsText P (object.Text t) = P t.items

-- The object is a store whose nodes follow Tally. Its contents, and the sum that is kept of its directory's encoding, have the property.
-- `IsTallyNode` says of an object that it is a node that follows Tally, and has the property.
abbrev pub IsTallyStore : (Contents → List ℕ → Type 0) → Object → Type 0
IsTallyStore P (object.TallyStore s d) = P s d
IsTallyStore P (object.RelayStore s d) = ⊥
IsTallyStore P (object.MailboxStore s d) = ⊥
IsTallyStore P (object.TallyNode n) = ⊥
IsTallyStore P (object.RelayNode n) = ⊥
IsTallyStore P (object.MailboxNode n) = ⊥
IsTallyStore P (object.Text t) = ⊥

abbrev pub IsTallyNode : (NodeState ℕ → Type 0) → Object → Type 0
IsTallyNode P (object.TallyStore s d) = ⊥
IsTallyNode P (object.RelayStore s d) = ⊥
IsTallyNode P (object.MailboxStore s d) = ⊥
IsTallyNode P (object.TallyNode n) = P n
IsTallyNode P (object.RelayNode n) = ⊥
IsTallyNode P (object.MailboxNode n) = ⊥
IsTallyNode P (object.Text t) = ⊥

-- The same for Relay.
abbrev pub IsRelayStore : (Contents → List ℕ → Type 0) → Object → Type 0
IsRelayStore P (object.TallyStore s d) = ⊥
IsRelayStore P (object.RelayStore s d) = P s d
IsRelayStore P (object.MailboxStore s d) = ⊥
IsRelayStore P (object.TallyNode n) = ⊥
IsRelayStore P (object.RelayNode n) = ⊥
IsRelayStore P (object.MailboxNode n) = ⊥
IsRelayStore P (object.Text t) = ⊥

abbrev pub IsRelayNode : (NodeState ℕ → Type 0) → Object → Type 0
IsRelayNode P (object.TallyStore s d) = ⊥
IsRelayNode P (object.RelayStore s d) = ⊥
IsRelayNode P (object.MailboxStore s d) = ⊥
IsRelayNode P (object.TallyNode n) = ⊥
IsRelayNode P (object.RelayNode n) = P n
IsRelayNode P (object.MailboxNode n) = ⊥
IsRelayNode P (object.Text t) = ⊥

-- The same for Mailbox.
abbrev pub IsMailboxStore : (Contents → List ℕ → Type 0) → Object → Type 0
IsMailboxStore P (object.TallyStore s d) = ⊥
IsMailboxStore P (object.RelayStore s d) = ⊥
IsMailboxStore P (object.MailboxStore s d) = P s d
IsMailboxStore P (object.TallyNode n) = ⊥
IsMailboxStore P (object.RelayNode n) = ⊥
IsMailboxStore P (object.MailboxNode n) = ⊥
IsMailboxStore P (object.Text t) = ⊥

abbrev pub IsMailboxNode : (NodeState Held → Type 0) → Object → Type 0
IsMailboxNode P (object.TallyStore s d) = ⊥
IsMailboxNode P (object.RelayStore s d) = ⊥
IsMailboxNode P (object.MailboxStore s d) = ⊥
IsMailboxNode P (object.TallyNode n) = ⊥
IsMailboxNode P (object.RelayNode n) = ⊥
IsMailboxNode P (object.MailboxNode n) = P n
IsMailboxNode P (object.Text t) = ⊥

-- ---- an object before and after

-- Both are stores of one program, with one sum of a directory's encoding. Their contents stand in the relation.
abbrev pub StoreBecomes : (Contents → Contents → Type 0) → Object → Object → Type 0
StoreBecomes R (object.TallyStore s d) y = IsTallyStore (λ t e. (e ≡ d) × R s t) y
StoreBecomes R (object.RelayStore s d) y = IsRelayStore (λ t e. (e ≡ d) × R s t) y
StoreBecomes R (object.MailboxStore s d) y = IsMailboxStore (λ t e. (e ≡ d) × R s t) y
StoreBecomes R (object.TallyNode n) y = ⊥
StoreBecomes R (object.RelayNode n) y = ⊥
StoreBecomes R (object.MailboxNode n) y = ⊥
StoreBecomes R (object.Text t) y = ⊥

-- Both are nodes of one program, and stand in the relation.
abbrev pub NodeBecomes : ((S : Type 0) → Meaning S → NodeState S → NodeState S → Type 0) → Object → Object → Type 0
NodeBecomes R (object.TallyStore s d) y = ⊥
NodeBecomes R (object.RelayStore s d) y = ⊥
NodeBecomes R (object.MailboxStore s d) y = ⊥
NodeBecomes R (object.TallyNode n) y = IsTallyNode (R ℕ tally n) y
NodeBecomes R (object.RelayNode n) y = IsRelayNode (R ℕ relay n) y
NodeBecomes R (object.MailboxNode n) y = IsMailboxNode (R Held mailbox n) y
NodeBecomes R (object.Text t) y = ⊥

-- Both are stores of one program, and their contents stand in the relation.
abbrev pub StoresStand : (Contents → Contents → Type 0) → Object → Object → Type 0
StoresStand R (object.TallyStore s d) y = IsTallyStore (λ t e. R s t) y
StoresStand R (object.RelayStore s d) y = IsRelayStore (λ t e. R s t) y
StoresStand R (object.MailboxStore s d) y = IsMailboxStore (λ t e. R s t) y
StoresStand R (object.TallyNode n) y = ⊥
StoresStand R (object.RelayNode n) y = ⊥
StoresStand R (object.MailboxNode n) y = ⊥
StoresStand R (object.Text t) y = ⊥

-- The second object becomes the third, and the sum that is kept of its directory's encoding stays. All three are stores of one program, and the
-- contents of the first, the second and the third stand in the relation.
abbrev pub StoreTakesOf : (Contents → Contents → Contents → Type 0) → Object → Object → Object → Type 0
StoreTakesOf R (object.TallyStore o c) x y = IsTallyStore (λ s d. IsTallyStore (λ t e. (e ≡ d) × R o s t) y) x
StoreTakesOf R (object.RelayStore o c) x y = IsRelayStore (λ s d. IsRelayStore (λ t e. (e ≡ d) × R o s t) y) x
StoreTakesOf R (object.MailboxStore o c) x y = IsMailboxStore (λ s d. IsMailboxStore (λ t e. (e ≡ d) × R o s t) y) x
StoreTakesOf R (object.TallyNode n) x y = ⊥
StoreTakesOf R (object.RelayNode n) x y = ⊥
StoreTakesOf R (object.MailboxNode n) x y = ⊥
StoreTakesOf R (object.Text t) x y = ⊥

-- ---- why an object refuses

-- The refusal is one of a store, as the relation says, or `OtherKind` if the object is no store.
abbrev pub StoreRefuses : ((S : Type 0) → Meaning S → Contents → Refusal → Type 0) → Object → Refusal → Type 0
StoreRefuses P (object.TallyStore s d) f = P ℕ tally s f
StoreRefuses P (object.RelayStore s d) f = P ℕ relay s f
StoreRefuses P (object.MailboxStore s d) f = P Held mailbox s f
StoreRefuses P (object.TallyNode n) f = f ≡ refusal.OtherKind
StoreRefuses P (object.RelayNode n) f = f ≡ refusal.OtherKind
StoreRefuses P (object.MailboxNode n) f = f ≡ refusal.OtherKind
StoreRefuses P (object.Text t) f = f ≡ refusal.OtherKind

-- The refusal is one of a node, as the relation says, or `OtherKind` if the object is no node.
abbrev pub NodeRefuses : ((S : Type 0) → Meaning S → NodeState S → Refusal → Type 0) → Object → Refusal → Type 0
NodeRefuses P (object.TallyStore s d) f = f ≡ refusal.OtherKind
NodeRefuses P (object.RelayStore s d) f = f ≡ refusal.OtherKind
NodeRefuses P (object.MailboxStore s d) f = f ≡ refusal.OtherKind
NodeRefuses P (object.TallyNode n) f = P ℕ tally n f
NodeRefuses P (object.RelayNode n) f = P ℕ relay n f
NodeRefuses P (object.MailboxNode n) f = P Held mailbox n f
NodeRefuses P (object.Text t) f = f ≡ refusal.OtherKind

-- The refusal is one of two stores of one program, as the relation says, or `OtherKind` if the objects are no such stores.
abbrev pub PairRefuses : (Contents → Contents → Refusal → Type 0) → Object → Object → Refusal → Type 0
PairRefuses P x o f = StoresStand (λ s t. P s t f) x o ⊎ ((f ≡ refusal.OtherKind) × (StoresStand (λ s t. ⊤) x o → ⊥))

-- Why a text is not copied into a room of this length.
abbrev pub CopyRefuses : ℕ → Object → Refusal → Type 0
CopyRefuses room (object.TallyStore s d) f = f ≡ refusal.OtherKind
CopyRefuses room (object.RelayStore s d) f = f ≡ refusal.OtherKind
CopyRefuses room (object.MailboxStore s d) f = f ≡ refusal.OtherKind
CopyRefuses room (object.TallyNode n) f = f ≡ refusal.OtherKind
CopyRefuses room (object.RelayNode n) f = f ≡ refusal.OtherKind
CopyRefuses room (object.MailboxNode n) f = f ≡ refusal.OtherKind
CopyRefuses room (object.Text t) f = (f ≡ refusal.WrongLength) × (length t.items ≡ room → ⊥)

-- How many bytes the text has, or 0 if the object is no text.
abbrev pub Lends : Object → ℕ → Type 0
Lends (object.TallyStore s d) n = n ≡ 0
Lends (object.RelayStore s d) n = n ≡ 0
Lends (object.MailboxStore s d) n = n ≡ 0
Lends (object.TallyNode m) n = n ≡ 0
Lends (object.RelayNode m) n = n ≡ 0
Lends (object.MailboxNode m) n = n ≡ 0
Lends (object.Text t) n = n ≡ length t.items

-- ---- handles

-- The handle is open, and what lies behind it has the property.
abbrev pub Is : (Object → Type 0) → Option Object → Type 0
Is P None = ⊥
Is P (Some x) = P x

-- Both handles are open, and what lies behind them stands in the relation.
abbrev pub Both : (Object → Object → Type 0) → Option Object → Option Object → Type 0
Both R None y = ⊥
Both R (Some x) y = Is (R x) y

-- The number is that of a refusal of what lies behind the handle, or that of `Closed` if the handle is closed.
abbrev pub Says : (Object → Refusal → Type 0) → Option Object → ℕ → Type 0
Says P None n = n ≡ refusal_number refusal.Closed
Says P (Some x) n = (f : Refusal) × (n ≡ refusal_number f) × P x f

-- The same of two handles. The first is looked at first.
abbrev pub SaysOfTwo : (Object → Object → Refusal → Type 0) → Option Object → Option Object → ℕ → Type 0
SaysOfTwo P None y n = n ≡ refusal_number refusal.Closed
SaysOfTwo P (Some x) y n = Says (P x) y n
