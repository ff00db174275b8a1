-- What the calls do to stores and nodes, by the encodings that they are given.
use Rattle.std.specs.Prelude.{◌≡◌, ◌⊎◌, ◌↔◌, ◌+◌, ◌==◌, ℕ, Bool, false, true, IsTrue, List, Some, None, Result, Ok, Err, slice_get, nat_eq, if◌then◌else◌}
use Rattle.std.specs.Map.{lookup}
use Rattle.outcome.specs.Outcome.{◌>>=◌, Fails, told_as}
use Rattle.authenticators.specs.Directory.{is_listed}
use Rattle.mailbox.specs.MailboxMeaning.{mailbox}
use Rattle.ref_programs.specs.RelayMeaning.{relay}
use Rattle.ref_programs.specs.TallyMeaning.{tally}
use Rattle.replay_verifier.specs.Meaning.{Meaning}
use Rattle.proofs.specs.Cases.{Case}
use Rattle.proofs.specs.Convicting.{Convicts}
use Rattle.proofs.specs.ProofTexts.{proof_text}
use Rattle.item_forms.specs.declared.forms.Fields.{Fields}
use Rattle.item_forms.specs.declared.forms.Fields.TheVariants as form
use Rattle.item_forms.specs.Spelling.{Fits, spelling}
use Rattle.lms_sign.specs.Signing.{PrivateKey}
use Rattle.item_forms.specs.Messages.{Message}
use Rattle.commitment.specs.Keyrings.{leaves_left}
use Rattle.commitment.specs.Nodes.{NodeState, checkpointed, rekeyed}
use Rattle.containers.specs.CheckedItems.{checked_of}
use Rattle.containers.specs.Container.{import_of}
use Rattle.evidence.specs.Exports.{export_of, magic_of, set_text}
use Rattle.evidence_set.specs.Indications.{IsExposed, IsIndication}
use Rattle.evidence_set.specs.ItemSets.{Items, IsWithin, Join, count}
use Rattle.evidence_set.specs.declared.indication.Indication.{Indication}
use Rattle.evidence_set.specs.declared.indication.Indication.TheVariants as indication
use Rattle.evidence.specs.Contents.{Contents, with_items}
use Rattle.evidence.specs.Importing.{import_set}
use Rattle.transfer.specs.Packs.{pack_magic, pack_text}
use Rattle.byte_calls.specs.declared.refusal.Refusal.{Refusal}
use Rattle.byte_calls.specs.declared.refusal.Refusal.TheVariants as refusal
use Rattle.byte_calls.specs.Checks.{Check}
use Rattle.byte_calls.specs.Explanations.{TellsOfAll, TellsOfProof, sum_of}
use Rattle.byte_calls.specs.Nodes.{AcknowledgesSent, Replies, RefusesReply, accepted, begun, key_text_of, known}
use Rattle.byte_calls.specs.Refusals.{of_import, of_node}
use Rattle.byte_calls.specs.Stores.{AreFewer, Takes, opened, valid_item_of}
use Rattle.byte_calls.specs.Transfers.{packed, shortened}
use Rattle.bulwynef_c.specs.Programs.{IsNoProgram, IsNumberOf, IsProgram, meaning, program_name}
use Rattle.bulwynef_c.specs.declared.programs.Followed.{Followed}
use Rattle.bulwynef_c.specs.declared.object.Object.{Object}
use Rattle.bulwynef_c.specs.declared.object.Object.TheVariants as object

-- ---- explanations

-- The text says whom a proof convicts under the program with this number, and why. It has the program's name.
abbrev pub Explains : ℕ → List ℕ → List ℕ → List ℕ → Type 0
Explains number directory proof text = (p : Followed) × IsNumberOf number p × TellsOfProof (meaning p) (program_name p) directory proof text

-- Why no text is written of a proof.
abbrev pub ExplainFails : ℕ → List ℕ → List ℕ → Refusal → Type 0
ExplainFails program directory proof f =
    (f ≡ refusal.Memory)
    ⊎ ((program ≡ 1) × Check tally directory proof (Err f)) ⊎ ((program ≡ 2) × Check relay directory proof (Err f))
    ⊎ ((program ≡ 3) × Check mailbox directory proof (Err f)) ⊎ (IsNoProgram program × (f ≡ refusal.BadProgram))

-- The text says what the items of a store say under the program. It has the program's name, and the sum that is kept of the directory's
-- encoding.
abbrev pub ExplainsAll : List ℕ → (p : Followed) → List ℕ → Contents → Type 0
ExplainsAll text p sum s = TellsOfAll (meaning p) (program_name p) sum s text

-- ---- keys

-- The encoding of the public key of a seed, in a room of so many bytes, or the refusal. The room is looked at first.
unfoldable pub key_in : ℕ → ℕ → ℕ → List ℕ → List ℕ → Result (List ℕ) Refusal
key_in room lms ots id seed = if room == 56 then key_text_of lms ots id seed else Err refusal.WrongLength

-- ---- stores

-- The store was given the items of the encoding of a set, and so many are new.
abbrev pub Joins : List ℕ → ℕ → Contents → Contents → Type 0
Joins text new s t = (count s.items + new ≡ count t.items) × ((added : Items) × (text ≡ set_text (magic_of text) added) × (t ≡ with_items s (Join s.items added)))

-- Why an export's items are not added.
abbrev pub ImportFails : List ℕ → Contents → Refusal → Type 0
ImportFails text s f = Fails refusal.Memory f (told_as of_import (import_set s.directory text))

-- The store was given the items of the encoding of a pack, and so many are new.
abbrev pub Applies : List ℕ → ℕ → Contents → Contents → Type 0
Applies text new s t = (count s.items + new ≡ count t.items) × ((added : Items) × (text ≡ pack_text added) × (t ≡ with_items s (Join s.items added)))

-- Why a pack's items are not added.
abbrev pub ApplyFails : List ℕ → Contents → Refusal → Type 0
ApplyFails text s f = Fails refusal.Memory f (told_as of_import (import_of pack_magic (checked_of s.directory) text))

-- 1 for true, 0 for false.
abbrev pub flag : Bool → ℕ
flag b = if b then 1 else 0

-- The store took the item with this encoding. The number is 1 if the item is new, else 0.
abbrev pub TakesItem : List ℕ → ℕ → Contents → Contents → Type 0
TakesItem text told s t = (new : Bool) × (told ≡ flag new) × Takes s t text new

-- Why an item is not taken.
abbrev pub TakeFails : List ℕ → Contents → Refusal → Type 0
TakeFails text s f = Fails refusal.Memory f (valid_item_of s.directory text)

-- An indication's number: 1 trusted, 2 suspected, 3 exposed. None has the number 0.
abbrev pub number_of : Indication → ℕ
number_of indication.Trusted = 1
number_of indication.Suspected = 2
number_of indication.Exposed = 3

-- The number is that of what a store's items say of a node, which is listed.
abbrev pub Indicates : ℕ → ℕ → {S : Type 0} → Meaning S → Contents → Type 0
Indicates node n program s = (is_listed s.directory node ≡ true) × ((i : Indication) × (n ≡ number_of i) × IsIndication s.directory program s.items node i)

-- The bytes encode a proof that convicts the node.
abbrev pub ConvictsBy : ℕ → List ℕ → {S : Type 0} → Meaning S → Contents → Type 0
ConvictsBy node text program s = (c : Case) × (text ≡ proof_text c.parts) × Convicts s.directory program node c.parts

-- A store was given the items of another one under the same directory, and so many are new.
abbrev pub Merges : ℕ → Contents → Contents → Contents → Type 0
Merges new other s t = (s.directory ≡ other.directory) × (count s.items + new ≡ count t.items) × (t ≡ with_items s (Join s.items other.items))

-- The object is a store without items, whose nodes follow the program with this number. It is under the directory with this encoding. The sum of
-- the encoding is kept beside it.
abbrev pub IsStoreOf : ℕ → List ℕ → Object → Type 0
IsStoreOf program text (object.TallyStore s d) = (program ≡ 1) × (opened text ≡ Ok s) × (d ≡ sum_of text)
IsStoreOf program text (object.RelayStore s d) = (program ≡ 2) × (opened text ≡ Ok s) × (d ≡ sum_of text)
IsStoreOf program text (object.MailboxStore s d) = (program ≡ 3) × (opened text ≡ Ok s) × (d ≡ sum_of text)
IsStoreOf program text (object.TallyNode n) = ⊥
IsStoreOf program text (object.RelayNode n) = ⊥
IsStoreOf program text (object.MailboxNode n) = ⊥
IsStoreOf program text (object.Text t) = ⊥

-- Why no store is opened.
abbrev pub OpenFails : ℕ → List ℕ → Refusal → Type 0
OpenFails program text f = (IsProgram program × Fails refusal.Memory f (opened text)) ⊎ (IsNoProgram program × (f ≡ refusal.BadProgram))

-- Why a store is not given the items of another one.
abbrev pub MergeFails : Contents → Contents → Refusal → Type 0
MergeFails s other f = (f ≡ refusal.Memory) ⊎ ((f ≡ refusal.OtherDirectory) × (s.directory ≡ other.directory → ⊥))

-- Why there is no indication: the node is not listed.
abbrev pub IndicationFails : ℕ → Contents → Refusal → Type 0
IndicationFails node s f = (f ≡ refusal.UnknownNode) × (is_listed s.directory node ≡ false)

-- Why there is no proof: memory ran out; or the node is not listed; or it is listed and not exposed.
abbrev pub ProofFails : ℕ → {S : Type 0} → Meaning S → Contents → Refusal → Type 0
ProofFails node program s f =
    (f ≡ refusal.Memory) ⊎ ((f ≡ refusal.UnknownNode) × (is_listed s.directory node ≡ false))
    ⊎ ((f ≡ refusal.NotExposed) × (is_listed s.directory node ≡ true) × (IsExposed s.directory program s.items node → ⊥))

-- Why there is no challenge at a place: memory ran out; or the node is not listed; or it is listed and there are fewer.
abbrev pub ChallengeFails : ℕ → ℕ → Contents → Refusal → Type 0
ChallengeFails node place s f =
    (f ≡ refusal.Memory) ⊎ ((f ≡ refusal.UnknownNode) × (is_listed s.directory node ≡ false))
    ⊎ ((f ≡ refusal.OutOfRange) × (is_listed s.directory node ≡ true) × AreFewer s node place)

-- The number is 1 if the first store has each item of the second, else 0.
abbrev pub Includes : ℕ → Contents → Contents → Type 0
Includes told s o = (all : Bool) × (told ≡ flag all) × (IsTrue all ↔ IsWithin o.items s.items)

-- ---- nodes

-- The object is a node that follows the program with this number. It has begun under the directory with this encoding, by the key.
abbrev pub IsNodeOf : ℕ → List ℕ → ℕ → ℕ → PrivateKey → Object → Type 0
IsNodeOf program text id first key (object.TallyStore s d) = ⊥
IsNodeOf program text id first key (object.RelayStore s d) = ⊥
IsNodeOf program text id first key (object.MailboxStore s d) = ⊥
IsNodeOf program text id first key (object.TallyNode n) = (program ≡ 1) × (begun tally text id first key ≡ Ok n)
IsNodeOf program text id first key (object.RelayNode n) = (program ≡ 2) × (begun relay text id first key ≡ Ok n)
IsNodeOf program text id first key (object.MailboxNode n) = (program ≡ 3) × (begun mailbox text id first key ≡ Ok n)
IsNodeOf program text id first key (object.Text t) = ⊥

-- Why no node begins.
abbrev pub NodeFails : ℕ → List ℕ → ℕ → ℕ → PrivateKey → Refusal → Type 0
NodeFails program text id first key f =
    ((program ≡ 1) × Fails refusal.Memory f (begun tally text id first key)) ⊎ ((program ≡ 2) × Fails refusal.Memory f (begun relay text id first key))
    ⊎ ((program ≡ 3) × Fails refusal.Memory f (begun mailbox text id first key)) ⊎ (IsNoProgram program × (f ≡ refusal.BadProgram))

-- Why no checkpoint is logged.
abbrev pub CheckpointFails : {S : Type 0} → Meaning S → NodeState S → Refusal → Type 0
CheckpointFails program n f = Fails refusal.Memory f (told_as of_node (checkpointed program n))

-- The node accepted the acknowledgement with this encoding. A store takes it, and it is of a message that the node sent.
abbrev pub Accepts : {S : Type 0} → List ℕ → NodeState S → NodeState S → Type 0
Accepts text n m = (accepted n text ≡ Ok m) × AcknowledgesSent n text

-- The node signs by the key from now on.
abbrev pub Rekeys : {S : Type 0} → PrivateKey → NodeState S → NodeState S → Type 0
Rekeys key n m = known refusal.WrongKey (rekeyed n key) ≡ Ok m

-- Why the node does not sign by the key.
abbrev pub RekeyFails : {S : Type 0} → PrivateKey → NodeState S → Refusal → Type 0
RekeyFails key n f = Fails refusal.Memory f (known refusal.WrongKey (rekeyed n key))

-- The message with this number waits at the place for its acknowledgement.
abbrev pub Waits : {S : Type 0} → ℕ → ℕ → NodeState S → Type 0
Waits place seq n = slice_get n.account.unacknowledged place ≡ Some seq

-- Fewer messages wait than would have one at the place.
abbrev pub WaitFails : {S : Type 0} → ℕ → NodeState S → Refusal → Type 0
WaitFails place n f = (f ≡ refusal.OutOfRange) × (slice_get n.account.unacknowledged place ≡ None)

-- The bytes encode, as a send challenge, the message that the node sent with this number.
abbrev pub Sends : {S : Type 0} → ℕ → List ℕ → NodeState S → Type 0
Sends seq text n = (m : Message) × (lookup (nat_eq seq) n.account.sent ≡ Some m) × Fits (form.Send m) × (text ≡ spelling (form.Send m))

-- Why no message is given: memory ran out, or none with this number was sent, or it is above the limits of an item.
abbrev pub SendFails : {S : Type 0} → ℕ → NodeState S → Refusal → Type 0
SendFails seq n f =
    (f ≡ refusal.Memory) ⊎ ((f ≡ refusal.OutOfRange) × (lookup (nat_eq seq) n.account.sent ≡ None))
    ⊎ ((f ≡ refusal.TooLong) × ((m : Message) × (lookup (nat_eq seq) n.account.sent ≡ Some m) × ¬ (Fits (form.Send m))))

-- The node answered the challenge with this encoding by the item with that one.
abbrev pub RepliesBy : List ℕ → List ℕ → List ℕ → {S : Type 0} → Meaning S → NodeState S → NodeState S → Type 0
RepliesBy challenge entropy text program n m = (item : Fields) × (text ≡ spelling item) × Replies program challenge entropy item n m

-- The node answered the challenge with this encoding, whatever became of the answer.
abbrev pub HasReplied : List ℕ → List ℕ → {S : Type 0} → Meaning S → NodeState S → NodeState S → Type 0
HasReplied challenge entropy program n m = (item : Fields) × Replies program challenge entropy item n m

-- Why the node does not answer a challenge: memory ran out, or the challenge is refused.
abbrev pub ReplyFails : List ℕ → List ℕ → {S : Type 0} → Meaning S → NodeState S → Refusal → Type 0
ReplyFails challenge entropy program n f = (f ≡ refusal.Memory) ⊎ RefusesReply program challenge entropy n f
