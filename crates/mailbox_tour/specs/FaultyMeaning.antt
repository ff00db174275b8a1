-- Relays that do not follow Mailbox.
use Rattle.std.specs.Prelude.{ℕ, ◌-◌, ◌==◌, ◌&&◌, nat_le, Bool, List, [], length, map, bit_xor, slice_index, slice_set, if◌then◌else◌}
use Rattle.replay_verifier.specs.declared.output.Output.{Output}
use Rattle.replay_verifier.specs.declared.program.Step.{Step}
use Rattle.replay_verifier.specs.Meaning.{Meaning}
use Rattle.mailbox.specs.declared.held.Held.{Held}
use Rattle.mailbox.specs.declared.letters.TheConstants.{MAIL}
use Rattle.mailbox.specs.MailboxMeaning.{mailbox}

-- ---- a relay that holds no mail

abbrev pub forgotten : Held → Held
forgotten held = record held { mails = [] }

-- Mailbox's step, but behind it no mail is held.
abbrev pub forgotten_step : Step Held → Step Held
forgotten_step step = record { state = forgotten step.state; outputs = step.outputs }

abbrev pub forgetful : Meaning Held
forgetful = record mailbox { step = λ me held h. forgotten_step (mailbox.step me held h) }

-- ---- a relay that changes mails

abbrev pub is_mail : List ℕ → Bool
is_mail payload = nat_le 1 (length payload) && (slice_index payload 0 == MAIL)

-- The last byte of a mail exclusive-or 1. Any other message stays.
abbrev pub changed : List ℕ → List ℕ
changed payload =
    let last = length payload - 1 in
    if is_mail payload then slice_set payload last (bit_xor (slice_index payload last) 1) else payload

abbrev pub changed_output : Output → Output
changed_output output = record { to = output.to; payload = changed output.payload }

-- Mailbox's step, but each mail that is sent on is changed.
abbrev pub changed_step : Step Held → Step Held
changed_step step = record { state = step.state; outputs = map changed_output step.outputs }

abbrev pub changing : Meaning Held
changing = record mailbox { step = λ me held h. changed_step (mailbox.step me held h) }
