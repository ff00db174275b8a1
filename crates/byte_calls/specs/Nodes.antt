-- Nodes, by the encodings and numbers that they are given.
use Rattle.std.specs.Prelude.{◌≡◌, ◌⊎◌, ◌==◌, ℕ, nat_eq, nat_lt, Bool, false, List, length, Option, None, Some, is_some, Result, Ok, Err, if◌then◌else◌}
use Rattle.std.specs.List.{All, flat_map}
use Rattle.std.specs.Map.{lookup}
use Rattle.outcome.specs.Outcome.{◌>>=◌, told_as}
use Rattle.lms_sign.specs.Parameters.{height, lms_type_of, ots_type_of}
use Rattle.lms_sign.specs.Signing.{PrivateKey, new_key, public_key}
use Rattle.lms_sign.specs.KeyText.{key_text}
use Rattle.authenticators.specs.Directory.{Listing, keys_at}
use Rattle.authenticators.specs.DirectoryText.{directory_of}
use Rattle.replay_verifier.specs.Meaning.{Meaning}
use Rattle.messages.specs.declared.message.Message.{Message}
use Rattle.commitment.specs.Accounts.{acknowledged}
use Rattle.messages.specs.Messages.{is_same_message}
use Rattle.commitment.specs.Nodes.{NodeState, begins_by, new_node, ticked}
use Rattle.item_forms.specs.declared.forms.AckItem.{AckItem}
use Rattle.item_forms.specs.declared.forms.Fields.{Fields}
use Rattle.item_forms.specs.declared.forms.Fields.TheVariants as form
use Rattle.item_forms.specs.Reading.{item_of}
use Rattle.item_forms.specs.Spelling.{FitsEntry, entry_spelling, spelling}
use Rattle.evidence_item.specs.Validity.{IsValid, fault_of}
use Rattle.evidence_set.specs.Challenges.{Answers}
use Rattle.challenges.specs.declared.fault.AnswerFault.{AnswerFault}
use Rattle.challenges.specs.Answers.{IsAnswered, IsRefused, answer_fault}
use Rattle.byte_calls.specs.declared.refusal.Refusal.{Refusal}
use Rattle.byte_calls.specs.declared.refusal.Refusal.TheVariants as refusal
use Rattle.byte_calls.specs.Refusals.{of_answering, of_beginning, of_directory, of_node, of_reading}
use Rattle.byte_calls.specs.Stores.{valid_item_of}

-- What there is, or the refusal if there is nothing.
abbrev pub known : {A : Type 0} → Refusal → Option A → Result A Refusal
known f None = Err f
known f (Some x) = Ok x

-- The bytes if there are so many, else the refusal.
abbrev pub of_length : ℕ → List ℕ → Result (List ℕ) Refusal
of_length n bytes = if length bytes == n then Ok bytes else Err refusal.WrongLength

-- ---- keys

-- The key of two typecodes, an identifier of 16 bytes and a seed of 32 (RFC 8554, sections 4.1, 5.1 and appendix A), or the refusal. Trees above
-- a height of 10 are not made.
unfoldable pub key_of : ℕ → ℕ → List ℕ → List ℕ → Result PrivateKey Refusal
key_of lms ots id seed = do
  tree ← known refusal.UnknownLmsType (lms_type_of lms)
  leaf ← known refusal.UnknownOtsType (ots_type_of ots)
  name ← of_length 16 id
  secret ← of_length 32 seed
  if nat_lt 10 (height tree) then Err refusal.HeightTooLarge else Ok (new_key tree leaf name secret)

-- The encoding of its public key, or the refusal.
unfoldable pub key_text_of : ℕ → ℕ → List ℕ → List ℕ → Result (List ℕ) Refusal
key_text_of lms ots id seed = do
  key ← key_of lms ots id seed
  Ok (key_text (public_key key))

-- ---- what a node does

-- The node that begins under the directory with this encoding, or the refusal.
unfoldable pub begun : {S : Type 0} → Meaning S → List ℕ → ℕ → ℕ → PrivateKey → Result (NodeState S) Refusal
begun program text id first key = do
  directory ← told_as of_directory (directory_of text)
  ring ← told_as of_beginning (begins_by (keys_at directory id) key)
  Ok (new_node program directory id ring first)

-- The node once its timer has ticked, or the refusal.
unfoldable pub ticked_by : {S : Type 0} → Meaning S → NodeState S → ℕ → List ℕ → Result (NodeState S) Refusal
ticked_by program n moment entropy = do
  bytes ← of_length 32 entropy
  done ← told_as of_node (ticked program n moment bytes)
  Ok done.0

-- The entries of the node's log, in their order, each as a segment has it.
abbrev pub log_text : {S : Type 0} → NodeState S → List ℕ
log_text n = flat_map entry_spelling n.account.entries

-- Why the entries are not written: memory ran out, or an entry is too long for a segment.
abbrev pub RefusesLog : {S : Type 0} → NodeState S → Refusal → Type 0
RefusesLog n f = (f ≡ refusal.Memory) ⊎ ((f ≡ refusal.TooLong) × ¬ (All FitsEntry n.account.entries))

-- The acknowledgement that the item is, or the refusal if it is another item.
abbrev pub ack_in : Fields → Result AckItem Refusal
ack_in (form.Auth a) = Err refusal.BadTag
ack_in (form.Segment s) = Err refusal.BadTag
ack_in (form.Audit c) = Err refusal.BadTag
ack_in (form.Send m) = Err refusal.BadTag
ack_in (form.Ack a) = Ok a

-- The same if it is evidence under the directory, as a store takes it, else the refusal.
abbrev pub evident : Listing → AckItem → Result AckItem Refusal
evident ds a = if is_some (fault_of ds (form.Ack a)) then Err refusal.BadAck else Ok a

-- The acknowledgement that the item is if it is evidence, else the refusal.
unfoldable pub evident_in : Listing → Fields → Result AckItem Refusal
evident_in ds x = do
  a ← ack_in x
  evident ds a

-- The acknowledgement with this encoding if it is evidence, else the refusal.
unfoldable pub evident_ack : Listing → List ℕ → Result AckItem Refusal
evident_ack ds text = do
  x ← told_as of_reading (item_of text)
  evident_in ds x

-- What the node sent with the message's number is this message, byte by byte.
abbrev pub is_as_sent : Message → Option Message → Bool
is_as_sent m None = false
is_as_sent m (Some sent) = is_same_message sent m

-- The node sent this message, byte by byte.
abbrev pub is_sent : {S : Type 0} → NodeState S → Message → Bool
is_sent n m = is_as_sent m (lookup (nat_eq m.seq) n.account.sent)

-- The node once the message with this number waits no longer.
abbrev pub answered_by : {S : Type 0} → NodeState S → ℕ → NodeState S
answered_by n seq = record { directory = n.directory; account = acknowledged n.account seq; state = n.state }

-- The node once it has accepted the acknowledgement with this encoding, or the refusal.
unfoldable pub accepted : {S : Type 0} → NodeState S → List ℕ → Result (NodeState S) Refusal
accepted n text = do
  a ← evident_ack n.directory text
  if is_sent n a.message then Ok (answered_by n a.message.seq) else Err refusal.BadAck

-- The bytes encode an acknowledgement that a store of the same directory takes. Its message is one that the node sent.
pub record AcknowledgesSent {S : Type 0} (n : NodeState S) (text : List ℕ) : Type 0 where
  pub item : AckItem
  pub spelled : text ≡ spelling (form.Ack item)
  pub valid : IsValid n.directory (form.Ack item)
  pub sent : lookup (nat_eq item.message.seq) n.account.sent ≡ Some item.message

-- The node answered a valid challenge without a fault by a valid item that answers it. It answered as is defined for nodes.
pub record Replies {S : Type 0} (program : Meaning S) (challenge entropy : List ℕ) (item : Fields) (old new : NodeState S) : Type 0 where
  pub asked : Fields
  pub bytes : List ℕ
  pub sent : List Message
  pub is_asked : valid_item_of old.directory challenge ≡ Ok asked
  pub are_bytes : of_length 32 entropy ≡ Ok bytes
  pub allowed : answer_fault old.account.me old.account.entries asked ≡ None
  pub valid : IsValid old.directory item
  pub answers : Answers old.directory asked item
  pub done : IsAnswered program old asked bytes new item sent

-- Why a node does not answer the valid challenge with this encoding.
abbrev pub RefusesAsked : {S : Type 0} → Meaning S → List ℕ → List ℕ → NodeState S → Refusal → Type 0
RefusesAsked program challenge bytes n f =
    (asked : Fields) × (e : AnswerFault) × (valid_item_of n.directory challenge ≡ Ok asked) × IsRefused program n asked bytes e × (f ≡ of_answering e)

-- Why the challenge with this encoding is not answered. It is refused for the entropy's length, else as its encoding or its item is, else as a
-- node refuses.
abbrev pub RefusesReply : {S : Type 0} → Meaning S → List ℕ → List ℕ → NodeState S → Refusal → Type 0
RefusesReply program challenge entropy n f =
    (of_length 32 entropy ≡ Err f) ⊎ ((bytes : List ℕ) × (of_length 32 entropy ≡ Ok bytes) × ((valid_item_of n.directory challenge ≡ Err f) ⊎ RefusesAsked program challenge bytes n f))
