-- The programs that nodes may follow. For each, how its name is spelled, its states, and what it means.
use Rattle.std.specs.Prelude.{ℕ, List, codes}
use Rattle.replay_verifier.specs.Meaning.{Meaning}
use Rattle.ref_programs.specs.RelayMeaning.{relay}
use Rattle.ref_programs.specs.TallyMeaning.{tally}
use Rattle.mailbox.specs.declared.held.Held.{Held}
use Rattle.mailbox.specs.MailboxMeaning.{mailbox}
use Rattle.judge.specs.declared.programs.Followed.{Followed}
use Rattle.judge.specs.declared.programs.Followed.TheVariants as program

abbrev pub spelling_of : Followed → List ℕ
spelling_of program.Tally = codes "tally"
spelling_of program.Relay = codes "relay"
spelling_of program.Mailbox = codes "mailbox"

abbrev pub StateOf : Followed → Type 0
StateOf program.Tally = ℕ
StateOf program.Relay = ℕ
StateOf program.Mailbox = Held

abbrev pub meaning_of : (p : Followed) → Meaning (StateOf p)
meaning_of program.Tally = tally
meaning_of program.Relay = relay
meaning_of program.Mailbox = mailbox
