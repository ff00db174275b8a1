-- What is made of items, by their encodings: the statements that they hold, and the challenges that follow.
use Rattle.std.specs.Prelude.{ℕ, ◌==◌, ◌&&◌, nat_lt, length, Bool, true, List, Option, None, Some, Result, Ok, Err, slice_get, if◌then◌else◌}
use Rattle.outcome.specs.Outcome.{◌>>=◌, told_as}
use Rattle.authenticators.specs.declared.authenticator.Authenticator.{Authenticator}
use Rattle.messages.specs.declared.message.Message.{Message}
use Rattle.item_forms.specs.declared.forms.Fields.{Fields}
use Rattle.item_forms.specs.declared.forms.Fields.TheVariants as form
use Rattle.item_forms.specs.Reading.{item_of}
use Rattle.item_forms.specs.Spelling.{spelling}
use Rattle.evidence_item.specs.Statements.{statements_of}
use Rattle.challenges.specs.Demands.{demand}
use Rattle.byte_calls.specs.declared.refusal.Refusal.{Refusal}
use Rattle.byte_calls.specs.declared.refusal.Refusal.TheVariants as refusal
use Rattle.byte_calls.specs.Nodes.{known}
use Rattle.byte_calls.specs.Refusals.{of_reading}

-- ---- statements

-- The statement at a place, from 0, as an item, or the refusal if there are fewer.
abbrev pub said_at : List Authenticator → ℕ → Result Fields Refusal
said_at statements place = known refusal.OutOfRange (slice_get statements place) >>= λ a. Ok (form.Auth a)

-- The encoding of the statement at a place among those whose signatures the item holds, or the refusal. The item is given by its encoding.
unfoldable pub statement_text : List ℕ → ℕ → Result (List ℕ) Refusal
statement_text text place = do
  x ← told_as of_reading (item_of text)
  said ← said_at (statements_of x) place
  Ok (spelling said)

-- The statement that the item is, or the refusal if it is another item.
abbrev pub auth_in : Fields → Result Authenticator Refusal
auth_in (form.Auth a) = Ok a
auth_in (form.Segment s) = Err refusal.BadTag
auth_in (form.Audit c) = Err refusal.BadTag
auth_in (form.Send m) = Err refusal.BadTag
auth_in (form.Ack a) = Err refusal.BadTag

-- The statement with this encoding, or the refusal. `earlier_of` is the same, or None if there are no bytes.
unfoldable pub auth_of : List ℕ → Result Authenticator Refusal
auth_of text = do
  x ← told_as of_reading (item_of text)
  auth_in x

unfoldable pub earlier_of : List ℕ → Result (Option Authenticator) Refusal
earlier_of text = if length text == 0 then Ok None else (auth_of text >>= λ a. Ok (Some a))

-- ---- challenges

-- The earlier statement, if there is one, is of the same node and has the smaller number.
abbrev pub is_range : Option Authenticator → Authenticator → Bool
is_range None later = true
is_range (Some earlier) later = (earlier.node == later.node) && nat_lt earlier.seq later.seq

-- The audit challenge from the earlier statement, if there is one, to the later one, or the refusal if they make no range.
abbrev pub ranged : Option Authenticator → Authenticator → Result Fields Refusal
ranged earlier later = if is_range earlier later then Ok (demand earlier later) else Err refusal.BadRange

-- The encoding of the audit challenge for a log up to the entry of the statement `last`, or the refusal. It asks for the log from the entry of
-- the statement `first` on, or from the beginning if `first` is empty.
unfoldable pub demand_text : List ℕ → List ℕ → Result (List ℕ) Refusal
demand_text first last = do
  earlier ← earlier_of first
  later ← auth_of last
  item ← ranged earlier later
  Ok (spelling item)

-- The message of a send challenge or of an acknowledgement, or the refusal of another item.
abbrev pub message_in : Fields → Result Message Refusal
message_in (form.Auth a) = Err refusal.BadTag
message_in (form.Segment s) = Err refusal.BadTag
message_in (form.Audit c) = Err refusal.BadTag
message_in (form.Send m) = Ok m
message_in (form.Ack a) = Ok a.message

-- The encoding of the send challenge of the message of an item, or the refusal. The item is given by its encoding.
unfoldable pub sending_text : List ℕ → Result (List ℕ) Refusal
sending_text text = do
  x ← told_as of_reading (item_of text)
  m ← message_in x
  Ok (spelling (form.Send m))
