-- Laws that follow from the steps. The crate proves each.
use Rattle.std.specs.Prelude.{◌≡◌, ◌≢◌, ℕ, ◌+◌, ◌^◌, ◌<◌, ◌≤◌, List, [], ◌∷◌, ◌++◌, length, map, true}
use Rattle.std.specs.List.{All, Contains}
use Rattle.authenticators.specs.Directory.{Listing, is_listed}
use Rattle.replay_verifier.specs.declared.output.Output.{Output}
use Rattle.replay_verifier.specs.declared.program.Step.{Step}
use Rattle.replay_verifier.specs.Sending.{outs}
use Rattle.mailbox.specs.declared.held.Held.{Held}
use Rattle.mailbox.specs.declared.held.Mail.{Mail}
use Rattle.mailbox.specs.declared.held.TheConstants.{LIFETIME, LONGEST_TEXT, MOST_MAILS}
use Rattle.mailbox.specs.HeldMails.{IsHeld}
use Rattle.mailbox.specs.MailboxMeaning.{IsWriting, delivered, fetched, heard, sent, ticked}
use Rattle.mailbox.specs.UserWishes.{fetching, leaving, silent}

-- ---- the relay

-- If a text is not too long and is left while there is room, a fetch of its receiver right after it is answered with this text.
abbrev pub TextsArrive : Type 0
TextsArrive =
    (held : Held) (from to : ℕ) (text : List ℕ) → length text ≤ LONGEST_TEXT → length held.mails < MOST_MAILS
    → Contains (fetched (delivered held from to text).state to).outputs (sent (record { from = from; to = to; at = held.clock; text = text }))

-- All answers to a fetch are sent if its sender is another listed node. They are not too many for a step, and none is too long.
abbrev pub FetchesAreSent : Type 0
FetchesAreSent =
    (ds : Listing) (me from : ℕ) (held : Held) → IsHeld held → is_listed ds from ≡ true → from ≢ me
    → outs ds me (fetched held from).outputs ≡ (fetched held from).outputs

-- After a time of the timer, the node holds no mail that came more than LIFETIME before it.
abbrev pub OldMailsAreDropped : Type 0
OldMailsAreDropped = (held : Held) (time : ℕ) → time < 2 ^ 63 → All (λ (m : Mail). time ≤ m.at + LIFETIME) (ticked held time).state.mails

-- A node does not answer what another node answers to a message, and is not changed by it.
abbrev pub AnswersAreNotAnswered : Type 0
AnswersAreNotAnswered =
    (held other : Held) (from node : ℕ) (payload : List ℕ)
    → All (λ (o : Output). heard other node o.payload ≡ silent other) (heard held from payload).outputs

-- ---- a node that asks the relay

-- A node that leaves its draft sends one message, which the relay takes as this text for this node. A node that fetches sends one message,
-- which the relay takes as a fetch.
abbrev pub RequestsAreUnderstood : Type 0
RequestsAreUnderstood =
    (held relay : Held) (from to : ℕ) → to < 2 ^ 32
    → (map (λ (o : Output). heard relay from o.payload) (leaving held to).outputs ≡ delivered relay from to held.draft ∷ [])
    × (map (λ (o : Output). heard relay from o.payload) (fetching held).outputs ≡ fetched relay from ∷ [])

-- What a node holds after these moments, in order, and all that it sends at them.
unfoldable pub ticked_through : Held → List ℕ → Step Held
ticked_through held [] = silent held
ticked_through held (moment ∷ moments) =
    let first = ticked held moment in
    let others = ticked_through first.state moments in
    record { state = others.state; outputs = first.outputs ++ others.outputs }

-- After the moments that write a text, the text is at the end of the draft if it fits, and the node has sent nothing.
abbrev pub TextsAreWritten : Type 0
TextsAreWritten =
    (held : Held) (text moments : List ℕ) → IsWriting text moments → length held.draft + length text ≤ LONGEST_TEXT
    → ticked_through held moments ≡ silent (record held { draft = held.draft ++ text })
