-- What a node does at its user's wishes. They are the moments of the timer from 2 ^ 63 on.
use Rattle.std.specs.Prelude.{ℕ, ◌-◌, ◌==◌, ◌&&◌, nat_lt, Bool, List, [], ◌∷◌, ◌++◌, length, drop, slice_index, if◌then◌else◌}
use Rattle.std.specs.Int.{w32, w64, from_be_bytes, to_be_bytes}
use Rattle.replay_verifier.specs.declared.program.Step.{Step}
use Rattle.mailbox.specs.declared.held.Held.{Held}
use Rattle.mailbox.specs.declared.held.TheConstants.{LONGEST_TEXT, RELAY_NUMBER}
use Rattle.mailbox.specs.declared.letters.TheConstants.{DELIVER, FETCH}
use Rattle.mailbox.specs.declared.wishes.TheConstants.{FETCH_WISH, LEAVE_WISH}

-- The step to this state that sends nothing.
abbrev pub silent : Held → Step Held
silent held = record { state = held; outputs = [] }

-- The step to this state that sends the relay a request.
abbrev pub asking : Held → List ℕ → Step Held
asking state request = record { state = state; outputs = record { to = RELAY_NUMBER; payload = request } ∷ [] }

-- The step at which the node asks for what the relay holds for it.
abbrev pub fetching : Held → Step Held
fetching held = asking held (FETCH ∷ [])

-- The step that writes bytes to the end of the draft, if they fit. Else it does nothing.
unfoldable pub writing : Held → List ℕ → Step Held
writing held bytes =
    if nat_lt LONGEST_TEXT (length (held.draft ++ bytes)) then silent held
    else silent (record held { draft = held.draft ++ bytes })

-- A request to hold a text for a node.
abbrev pub delivery : ℕ → List ℕ → List ℕ
delivery to text = DELIVER ∷ (to_be_bytes w32 to ++ text)

-- The step that leaves the draft for the node `to`. A new draft begins.
unfoldable pub leaving : Held → ℕ → Step Held
leaving held to = asking (record held { draft = [] }) (delivery to held.draft)

-- The eight bytes of a wish. The first says what is wished. The last are a receiver's number or a piece of a text.
abbrev pub wish_bytes : ℕ → List ℕ
wish_bytes moment = to_be_bytes w64 moment

-- The first byte of a wish.
abbrev pub kind : ℕ → ℕ
kind moment = slice_index (wish_bytes moment) 0

-- The wish is to fetch.
abbrev pub is_fetching : ℕ → Bool
is_fetching moment = kind moment == FETCH_WISH

-- The wish is to leave the draft.
abbrev pub is_leaving : ℕ → Bool
is_leaving moment = kind moment == LEAVE_WISH

-- The number of the node for which the draft is left, in the last four bytes.
abbrev pub receiver : ℕ → ℕ
receiver moment = from_be_bytes w32 (drop 4 (wish_bytes moment))

-- The wish is to write one to seven bytes: its first byte is between those of fetching and leaving.
abbrev pub is_writing : ℕ → Bool
is_writing moment = nat_lt FETCH_WISH (kind moment) && nat_lt (kind moment) LEAVE_WISH

-- How many bytes a wish to write has.
abbrev pub piece_len : ℕ → ℕ
piece_len moment = kind moment - FETCH_WISH

-- The bytes that a wish writes: the last ones of the moment.
abbrev pub piece : ℕ → List ℕ
piece moment = drop (8 - piece_len moment) (wish_bytes moment)

-- The step at a wish. A moment with another first byte does nothing.
abbrev pub wished : Held → ℕ → Step Held
wished held moment =
    if is_fetching moment then fetching held
    else (if is_leaving moment then leaving held (receiver moment)
    else (if is_writing moment then writing held (piece moment) else silent held))
