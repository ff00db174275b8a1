-- A mail relay. Nodes leave texts for one another, and fetch the texts that were left for them.
use Rattle.std.specs.Prelude.{◌≡◌, ◌<◌, ℕ, ◌+◌, ◌-◌, ◌*◌, ◌/◌, ◌^◌, ◌==◌, ◌&&◌, max, nat_le, nat_lt, not, Bool, List, [], ◌∷◌, ◌++◌, length, take, drop, filter, map, slice_index, if◌then◌else◌}
use Rattle.std.specs.Int.{w32, from_be_bytes, to_be_bytes}
use Rattle.std.specs.List.{list_any}
use Rattle.replay_verifier.specs.declared.output.Output.{Output}
use Rattle.replay_verifier.specs.declared.program.Step.{Step}
use Rattle.replay_verifier.specs.Meaning.{Meaning, Happening, Received, Ticked}
use Rattle.state_codec.specs.CodedPrograms.{coded_program}
use Rattle.mailbox.specs.declared.held.Held.{Held}
use Rattle.mailbox.specs.declared.held.Mail.{Mail}
use Rattle.mailbox.specs.declared.held.TheConstants.{LIFETIME, LONGEST_TEXT, MOST_MAILS}
use Rattle.mailbox.specs.declared.letters.TheConstants.{DELIVER, FETCH, FULL, MAIL, STORED, TOO_LONG, UNCLEAR}
use Rattle.mailbox.specs.HeldMails.{held_coding}
use Rattle.mailbox.specs.UserWishes.{silent, wished, writing}

-- The step to this state that answers a node with a receipt of one letter.
abbrev pub answered : Held → ℕ → ℕ → Step Held
answered state to letter = record { state = state; outputs = record { to = to; payload = letter ∷ [] } ∷ [] }

-- ---- leaving a text

-- The message is `D`, a node's number in four bytes, and a text to the end.
abbrev pub is_delivery : List ℕ → Bool
is_delivery payload = nat_le 5 (length payload) && (slice_index payload 0 == DELIVER)

-- The number of the node for which a text is left.
abbrev pub receiver : List ℕ → ℕ
receiver payload = from_be_bytes w32 (take 4 (drop 1 payload))

-- The step on a text that `from` leaves for `to`. The text is held if it is not too long and there is room. A receipt to `from` says
-- whether it is.
abbrev pub delivered : Held → ℕ → ℕ → List ℕ → Step Held
delivered held from to text =
    if nat_lt LONGEST_TEXT (length text) then answered held from TOO_LONG
    else (if nat_le MOST_MAILS (length held.mails) then answered held from FULL
    else answered (record held { mails = held.mails ++ record { from = from; to = to; at = held.clock; text = text } ∷ [] }) from STORED)

-- ---- fetching

-- The message is `F` alone.
abbrev pub is_fetch : List ℕ → Bool
is_fetch payload = (length payload == 1) && (slice_index payload 0 == FETCH)

-- The mail is for this node.
abbrev pub is_for : ℕ → Mail → Bool
is_for node m = m.to == node

-- The message in which a mail is sent to its receiver: `M`, the number of the node that left it in four bytes, and the text.
abbrev pub sent : Mail → Output
sent m = record { to = m.to; payload = MAIL ∷ (to_be_bytes w32 m.from ++ m.text) }

-- The step on a fetch. All mails for the node are sent to it, and are held no longer.
abbrev pub fetched : Held → ℕ → Step Held
fetched held from = record {
  state = record held { mails = filter (λ m. not (is_for from m)) held.mails };
  outputs = map sent (filter (is_for from) held.mails);
}

-- ---- the steps

-- The message begins with the letter of an answer.
abbrev pub is_answer : List ℕ → Bool
is_answer payload = nat_le 1 (length payload) && list_any (λ letter. slice_index payload 0 == letter) (MAIL ∷ STORED ∷ TOO_LONG ∷ FULL ∷ UNCLEAR ∷ [])

-- The step on a message. A request is answered, an answer does nothing, and any other message is answered by `?`.
abbrev pub heard : Held → ℕ → List ℕ → Step Held
heard held from payload =
    if is_delivery payload then delivered held from (receiver payload) (drop 5 payload)
    else (if is_fetch payload then fetched held from
    else (if is_answer payload then silent held else answered held from UNCLEAR))

-- The mail came at most LIFETIME before the clock.
abbrev pub is_fresh : ℕ → Mail → Bool
is_fresh clock m = nat_le (clock - m.at) LIFETIME

-- The step at a time of the timer. The clock is set, but never back. Old mails are held no longer.
abbrev pub passed : Held → ℕ → Step Held
passed held time =
    let clock = max held.clock time in
    silent (record held { clock = clock; mails = filter (is_fresh clock) held.mails })

-- The step at a moment of the timer, which is a time or a user's wish.
abbrev pub ticked : Held → ℕ → Step Held
ticked held moment = if nat_lt moment (2 ^ 63) then passed held moment else wished held moment

-- The step of a node on an input.
abbrev pub mailbox_step : ℕ → Held → Happening → Step Held
mailbox_step me held (Received from payload) = heard held from payload
mailbox_step me held (Ticked moment) = ticked held moment

-- A node starts with no mail and no draft.
abbrev pub mailbox_start : ℕ → Held
mailbox_start me = record { clock = 0; draft = []; mails = [] }

-- What the program does: its start, its steps and the encoding of its state.
abbrev pub mailbox : Meaning Held
mailbox = coded_program held_coding mailbox_start mailbox_step

-- ---- a text in pieces

-- Each of the moments writes the next seven bytes of the text, and the last one those that are left.
pub record IsWriting (text moments : List ℕ) : Type 0 where
  pub count : length moments ≡ (length text + 6) / 7
  pub each : (k : ℕ) → k < length moments → (held : Held) → ticked held (slice_index moments k) ≡ writing held (take 7 (drop (7 * k) text))
