-- Records as bytes: what a node is given by one call. A number is unsigned, with its highest byte first. Before bytes of any
-- number, their length is in four bytes.
use Rattle.std.specs.Prelude.{◌≡◌, ℕ, ◌<◌, ◌^◌, ◌==◌, List, [], ◌∷◌, ◌++◌, length, Some, Result, Ok, Err, if◌then◌else◌}
use Rattle.std.specs.Int.{w8, w32, w64, to_be_bytes}
use Rattle.outcome.specs.Bytes.{IsBytes}
use Rattle.outcome.specs.Outcome.{◌>>=◌, told_as}
use Rattle.lms_sign.specs.declared.key.PublicKey.{PublicKey}
use Rattle.lms_sign.specs.KeyText.{IsKey, key_of, key_text}
use Rattle.log_chain.specs.Fields.{IsBytesOf, IsBytesUpTo, Read, bytes_at, bytes_text, number_at, take_at}
use Rattle.authenticators.specs.declared.signature.TheConstants.{LONGEST_SIGNATURE_TEXT}
use Rattle.messages.specs.declared.message.Ack.{Ack}
use Rattle.messages.specs.declared.message.Message.{Message}
use Rattle.item_forms.specs.declared.forms.Fields.{Fields}
use Rattle.item_forms.specs.declared.forms.Fields.TheVariants as form
use Rattle.item_forms.specs.FramedItems.{framed, framed_at}
use Rattle.item_forms.specs.Spelling.{FitsMessage}
use Rattle.node_journals.specs.declared.fault.RecordFault.{RecordFault}
use Rattle.node_journals.specs.declared.fault.RecordFault.TheVariants.{BadTag, Trailing}
use Rattle.node_journals.specs.declared.recorded.Recorded.{Recorded}
use Rattle.node_journals.specs.declared.recorded.Recorded.TheVariants.{Acknowledged, Checkpointed, Received, Rekeyed, Ticked}
use Rattle.node_journals.specs.Refusals.{of_field, of_item, of_key}

-- ---- spelling

-- An acknowledgement: the node in 4 bytes, the message's number in 8, its own number in 8, the hash before it in 32, and the
-- signature.
abbrev pub ack_text : Ack → List ℕ
ack_text a = to_be_bytes w32 a.from ++ to_be_bytes w64 a.send_seq ++ to_be_bytes w64 a.seq ++ a.prev ++ bytes_text a.sig

-- The encoding of a record: a byte for its kind, and what it has. A message is encoded as its send challenge, behind its
-- length.
abbrev pub recorded_text : Recorded → List ℕ
recorded_text (Received m entropy) = 1 ∷ (entropy ++ framed (form.Send m))
recorded_text (Ticked moment entropy) = 2 ∷ (entropy ++ to_be_bytes w64 moment)
recorded_text Checkpointed = 3 ∷ []
recorded_text (Acknowledged a) = 4 ∷ ack_text a
recorded_text (Rekeyed key) = 5 ∷ key_text key

-- ---- what has a spelling

-- The acknowledgement has an encoding: its numbers, its hash and its signature are within their limits.
pub record FitsRecordedAck (a : Ack) : Type 0 where
  pub from : a.from < 2 ^ 32
  pub send_seq : a.send_seq < 2 ^ 64
  pub seq : a.seq < 2 ^ 64
  pub prev : IsBytesOf 32 a.prev
  pub sig : IsBytesUpTo LONGEST_SIGNATURE_TEXT a.sig

-- The record has an encoding: all that it has is within its limits.
abbrev pub FitsRecord : Recorded → Type 0
FitsRecord (Received m entropy) = FitsMessage m × IsBytesOf 32 entropy
FitsRecord (Ticked moment entropy) = (moment < 2 ^ 64) × IsBytesOf 32 entropy
FitsRecord Checkpointed = Unit {0}
FitsRecord (Acknowledged a) = FitsRecordedAck a
FitsRecord (Rekeyed key) = IsKey key

-- ---- reading: the first fault that is met from the left is told

-- The message of a send challenge.
abbrev pub message_in : Fields → Result Message RecordFault
message_in (form.Send m) = Ok m
message_in x = Err BadTag

-- A received message: its entropy, and its send challenge.
unfoldable pub received_at : List ℕ → Read Recorded RecordFault
received_at bytes = do
  entropy ← told_as of_field (take_at 32 bytes)
  item ← told_as of_item (framed_at (Some 4) entropy.1)
  message ← message_in item.0
  Ok (Received message entropy.0, item.1)

-- A tick: its entropy, and its moment in eight bytes.
unfoldable pub ticked_at : List ℕ → Read Recorded RecordFault
ticked_at bytes = do
  entropy ← told_as of_field (take_at 32 bytes)
  moment ← told_as of_field (number_at w64 entropy.1)
  Ok (Ticked moment.0 entropy.0, moment.1)

-- An acknowledgement, in the order of `ack_text`.
unfoldable pub ack_at : List ℕ → Read Recorded RecordFault
ack_at bytes = do
  from ← told_as of_field (number_at w32 bytes)
  send_seq ← told_as of_field (number_at w64 from.1)
  seq ← told_as of_field (number_at w64 send_seq.1)
  prev ← told_as of_field (take_at 32 seq.1)
  sig ← told_as of_field (bytes_at LONGEST_SIGNATURE_TEXT prev.1)
  Ok (Acknowledged (record { from = from.0; send_seq = send_seq.0; seq = seq.0; prev = prev.0; sig = sig.0 }), sig.1)

-- A public key, in 56 bytes.
unfoldable pub key_at : List ℕ → Read PublicKey RecordFault
key_at bytes = do
  text ← told_as of_field (take_at 56 bytes)
  key ← told_as of_key (key_of text.0)
  Ok (key, text.1)

-- What a record of this kind has.
unfoldable pub kind_at : ℕ → List ℕ → Read Recorded RecordFault
kind_at kind bytes =
    if kind == 1 then received_at bytes
    else (if kind == 2 then ticked_at bytes
    else (if kind == 3 then Ok (Checkpointed, bytes)
    else (if kind == 4 then ack_at bytes
    else (if kind == 5 then (key_at bytes >>= λ k. Ok (Rekeyed k.0, k.1))
    else Err BadTag))))

-- What was read, if nothing is left.
abbrev pub to_end : {A : Type 0} → A × List ℕ → Result A RecordFault
to_end r = if length r.1 == 0 then Ok r.0 else Err Trailing

-- What a reading gives, if nothing is left over.
abbrev pub ended : {A : Type 0} → Read A RecordFault → Result A RecordFault
ended r = r >>= to_end

-- The record that takes up all of the bytes.
unfoldable pub recorded_of : List ℕ → Result Recorded RecordFault
recorded_of bytes = do
  kind ← told_as of_field (number_at w8 bytes)
  ended (kind_at kind.0 kind.1)

-- ---- a law, which `laws` proves

-- What is read is the encoding of the record that was read, and the encoding of a record is read as that record.
pub record RecordsReadBack : Type 0 where
  pub found : (bytes : List ℕ) (r : Recorded) → IsBytes bytes → recorded_of bytes ≡ Ok r → FitsRecord r × (bytes ≡ recorded_text r)
  pub only : (r : Recorded) → FitsRecord r → recorded_of (recorded_text r) ≡ Ok r
