-- Journals of nodes, by the texts and numbers that are handed in.
use Rattle.std.specs.Prelude.{ℕ, zero, suc, ◌%◌, ◌/◌, ◌==◌, nat_le, Bool, List, [], ◌∷◌, length, take, drop, Result, Ok, Err, if◌then◌else◌}
use Rattle.sha2.specs.Sha256.{sha256}
use Rattle.outcome.specs.Outcome.{◌>>=◌, told_as}
use Rattle.lms_sign.specs.declared.key.PublicKey.{PublicKey}
use Rattle.lms_sign.specs.Signing.{public_key}
use Rattle.authenticators.specs.Directory.{Listing}
use Rattle.authenticators.specs.DirectoryText.{directory_of, directory_text}
use Rattle.journal.specs.Journal.{block_of, can_be_left, covered, recovered, size_of}
use Rattle.journal.specs.declared.blocks.TheConstants.{MOST_GROUP}
use Rattle.messages.specs.declared.message.Ack.{Ack}
use Rattle.messages.specs.declared.message.Message.{Message}
use Rattle.commitment.specs.Nodes.{NodeState}
use Rattle.replay_verifier.specs.Meaning.{Meaning}
use Rattle.item_forms.specs.declared.forms.AckItem.{AckItem}
use Rattle.item_forms.specs.declared.forms.Fields.{Fields}
use Rattle.item_forms.specs.declared.forms.Fields.TheVariants as form
use Rattle.item_forms.specs.Reading.{item_of}
use Rattle.node_journals.specs.declared.beginning.Beginning.{Beginning}
use Rattle.node_journals.specs.declared.beginning.TheConstants.{LONGEST_NAME}
use Rattle.node_journals.specs.declared.keys.Secret.{Secret}
use Rattle.node_journals.specs.declared.recorded.Recorded.TheVariants.{Acknowledged, Checkpointed, Received, Rekeyed, Ticked}
use Rattle.node_journals.specs.Beginnings.{beginning_text}
use Rattle.node_journals.specs.Rebuilding.{rebuilt}
use Rattle.node_journals.specs.Records.{recorded_text}
use Rattle.node_journals.specs.Resuming.{is_known}
use Rattle.byte_calls.specs.declared.refusal.Refusal.{Refusal}
use Rattle.byte_calls.specs.declared.refusal.Refusal.TheVariants as refusal
use Rattle.byte_calls.specs.ItemTexts.{auth_of}
use Rattle.byte_calls.specs.Nodes.{key_of, of_length}
use Rattle.byte_calls.specs.Refusals.{of_directory, of_reading, of_rebuilding}

-- ---- the bytes of a journal

-- The open block of a text. The text is too long if its block is longer than a group of blocks may be.
abbrev pub block_text : List ℕ → Result (List ℕ) Refusal
block_text text = if nat_le (size_of (text ∷ [])) MOST_GROUP then Ok (block_of text) else Err refusal.TooLong

-- What the bytes of a journal stand for, if a crash can leave them.
abbrev pub if_left : {A : Type 0} → List ℕ → A → Result A Refusal
if_left file found = if can_be_left file then Ok found else Err refusal.Damaged

-- The place of the closed gate: how many bytes the blocks take.
abbrev pub end_of : List ℕ → Result ℕ Refusal
end_of file = if_left file (covered file)

-- The texts of the blocks.
abbrev pub texts_in : List ℕ → Result (List (List ℕ)) Refusal
texts_in file = if_left file (recovered file)

-- ---- the first text

-- A program's name, if it is not too long.
abbrev pub name_within : List ℕ → Result (List ℕ) Refusal
name_within name = if nat_le (length name) LONGEST_NAME then Ok name else Err refusal.TooLong

-- How the node begins: under a directory, with the key, for the program of this name.
abbrev pub beginning_under : List ℕ → Listing → ℕ → ℕ → PublicKey → Beginning
beginning_under name ds id first key = record { me = id; first_seq = first; directory = sha256 (directory_text ds); key = key; program = name }

-- The first text of the journal of a node that begins under the directory of a text.
unfoldable pub first_text : List ℕ → List ℕ → ℕ → ℕ → PublicKey → Result (List ℕ) Refusal
first_text name text id first key = do
  ds ← told_as of_directory (directory_of text)
  short ← name_within name
  Ok (beginning_text (beginning_under short ds id first key))

-- ---- the texts of records

-- The record of a tick of the timer.
unfoldable pub tick_text : ℕ → List ℕ → Result (List ℕ) Refusal
tick_text moment entropy = do
  bytes ← of_length 32 entropy
  Ok (recorded_text (Ticked moment bytes))

-- The message of a send challenge.
abbrev pub challenged_in : Fields → Result Message Refusal
challenged_in (form.Auth a) = Err refusal.BadTag
challenged_in (form.Segment s) = Err refusal.BadTag
challenged_in (form.Audit c) = Err refusal.BadTag
challenged_in (form.Send m) = Ok m
challenged_in (form.Ack a) = Err refusal.BadTag

-- The record of the receipt of the message that a text challenges a node to acknowledge.
unfoldable pub receipt_text : List ℕ → List ℕ → Result (List ℕ) Refusal
receipt_text challenge entropy = do
  bytes ← of_length 32 entropy
  x ← told_as of_reading (item_of challenge)
  m ← challenged_in x
  Ok (recorded_text (Received m bytes))

-- What an acknowledgement says without its message.
abbrev pub ack_said : AckItem → Ack
ack_said a = record { from = a.message.to; send_seq = a.message.seq; seq = a.seq; prev = a.prev; sig = a.sig }

-- The acknowledgement of an item, without its message.
abbrev pub acked_in : Fields → Result Ack Refusal
acked_in (form.Auth a) = Err refusal.BadTag
acked_in (form.Segment s) = Err refusal.BadTag
acked_in (form.Audit c) = Err refusal.BadTag
acked_in (form.Send m) = Err refusal.BadTag
acked_in (form.Ack a) = Ok (ack_said a)

-- The record of an acknowledgement.
unfoldable pub acceptance_text : List ℕ → Result (List ℕ) Refusal
acceptance_text ack = do
  x ← told_as of_reading (item_of ack)
  a ← acked_in x
  Ok (recorded_text (Acknowledged a))

-- The record of a checkpoint.
abbrev pub checkpoint_text : List ℕ
checkpoint_text = recorded_text Checkpointed

-- The record of a further key.
unfoldable pub rekeying_text : ℕ → ℕ → List ℕ → List ℕ → Result (List ℕ) Refusal
rekeying_text lms ots id seed = do
  key ← key_of lms ots id seed
  Ok (recorded_text (Rekeyed (public_key key)))

-- ---- the node of a journal

-- A key's identifier in 16 bytes, and its seed behind it.
abbrev pub secret_in : List ℕ → Secret
secret_in bytes = record { id = take 16 bytes; seed = drop 16 bytes }

-- So many of these, one behind the other, each in 48 bytes.
abbrev pub secrets_in : ℕ → List ℕ → List Secret
secrets_in zero bytes = []
secrets_in (suc n) bytes = secret_in (take 48 bytes) ∷ secrets_in n (drop 48 bytes)

-- All that the bytes have. Their number must be a multiple of 48.
abbrev pub secrets_of : List ℕ → Result (List Secret) Refusal
secrets_of bytes = if length bytes % 48 == 0 then Ok (secrets_in (length bytes / 48) bytes) else Err refusal.WrongLength

-- The node that a journal is rebuilt to, for the program of this name, under the directory of a text, by the seeds of its keys.
unfoldable pub restored : {S : Type 0} → Meaning S → List ℕ → List ℕ → List ℕ → List ℕ → Result (NodeState S) Refusal
restored program name text secrets file = do
  keys ← secrets_of secrets
  ds ← told_as of_directory (directory_of text)
  texts ← texts_in file
  told_as of_rebuilding (rebuilt (record { program = program; name = name; directory = ds; secrets = keys }) texts)

-- ---- a rebuilt node and its witnesses

-- Whether the statement of a text is another node's, or one of which this node signed the number and the hash.
unfoldable pub knows : {S : Type 0} → NodeState S → List ℕ → Result Bool Refusal
knows n text = do
  a ← auth_of text
  Ok (is_known n.account.me n.account.signed a)
