-- The programs that nodes follow. Each has a row in each table: its number, its name, and what it means.
use Rattle.std.specs.Prelude.{◌≡◌, ◌⊎◌, ℕ, List, codes}
use Rattle.mailbox.specs.MailboxMeaning.{mailbox}
use Rattle.mailbox.specs.declared.held.Held.{Held}
use Rattle.ref_programs.specs.RelayMeaning.{relay}
use Rattle.ref_programs.specs.TallyMeaning.{tally}
use Rattle.replay_verifier.specs.Meaning.{Meaning}
use Rattle.bulwynef_c.specs.declared.programs.Followed.{Followed}
use Rattle.bulwynef_c.specs.declared.programs.Followed.TheVariants.{Tally, Relay, Mailbox}

abbrev pub program_number : Followed → ℕ
program_number Tally = 1
program_number Relay = 2
program_number Mailbox = 3

abbrev pub program_name : Followed → List ℕ
program_name Tally = codes "tally"
program_name Relay = codes "relay"
program_name Mailbox = codes "mailbox"

-- The states of a program, and the program as a function on them.
abbrev pub State : Followed → Type 0
State Tally = ℕ
State Relay = ℕ
State Mailbox = Held

abbrev pub meaning : (p : Followed) → Meaning (State p)
meaning Tally = tally
meaning Relay = relay
meaning Mailbox = mailbox

-- The number is that of this program.
abbrev pub IsNumberOf : ℕ → Followed → Type 0
IsNumberOf number p = number ≡ program_number p

-- The number is that of a program. `IsNoProgram` says that it is that of none.
abbrev pub IsProgram : ℕ → Type 0
IsProgram number = (number ≡ 1) ⊎ (number ≡ 2) ⊎ (number ≡ 3)

abbrev pub IsNoProgram : ℕ → Type 0
IsNoProgram number = (number ≡ 1 → ⊥) × (number ≡ 2 → ⊥) × (number ≡ 3 → ⊥)
