-- The programs that nodes may run. Each has a row in each table: the spelling of its name, how people call it, its states, and what it means.
use Rattle.std.specs.Prelude.{ℕ, List, codes}
use Rattle.replay_verifier.specs.Meaning.{Meaning}
use Rattle.ref_programs.specs.RelayMeaning.{relay}
use Rattle.ref_programs.specs.TallyMeaning.{tally}
use Rattle.mailbox.specs.declared.held.Held.{Held}
use Rattle.mailbox.specs.MailboxMeaning.{mailbox}
use Rattle.bulwynef.specs.declared.programs.ProgramName.{ProgramName}
use Rattle.bulwynef.specs.declared.programs.ProgramName.TheVariants as program

abbrev pub spelling_of : ProgramName → List ℕ
spelling_of program.Tally = codes "tally"
spelling_of program.Relay = codes "relay"
spelling_of program.Mailbox = codes "mailbox"

abbrev pub title_of : ProgramName → List ℕ
title_of program.Tally = codes "Tally"
title_of program.Relay = codes "Relay"
title_of program.Mailbox = codes "Mailbox"

abbrev pub StateOf : ProgramName → Type 0
StateOf program.Tally = ℕ
StateOf program.Relay = ℕ
StateOf program.Mailbox = Held

abbrev pub meaning_of : (name : ProgramName) → Meaning (StateOf name)
meaning_of program.Tally = tally
meaning_of program.Relay = relay
meaning_of program.Mailbox = mailbox
