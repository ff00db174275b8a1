use Rattle.std.proofs.Common.{sym, subst}
use Rattle.std.specs.Prelude.{IfOk}
use Rattle.operating.specs.Plays.{Leaves}
use Rattle.bulwynef.specs.Programs.{meaning_of}
use Rattle.bulwynef.specs.declared.programs.ProgramName.{ProgramName}
use Rattle.bulwynef.proofs.running.played.Goals as goal

pub returns-in-Tally-clause-left : goal.returns-in-Tally-clause-left
returns-in-Tally-clause-left g c = subst (λ (name : ProgramName). IfOk c.run.result (Leaves (meaning_of name) c.args.limits.most_bytes c.args.limits.workers ((g.O.Opener.seen c.args.files.now).files 0))) (sym c.in-Tally.is) c.run.ensures.left

pub returns-in-Relay-clause-left : goal.returns-in-Relay-clause-left
returns-in-Relay-clause-left g c = subst (λ (name : ProgramName). IfOk c.run-in-Relay.result (Leaves (meaning_of name) c.args.limits.most_bytes c.args.limits.workers ((g.O.Opener.seen c.args.files.now).files 0))) (sym c.in-Relay.is) c.run-in-Relay.ensures.left

pub returns-in-Mailbox-clause-left : goal.returns-in-Mailbox-clause-left
returns-in-Mailbox-clause-left g c = subst (λ (name : ProgramName). IfOk c.run-in-Mailbox.result (Leaves (meaning_of name) c.args.limits.most_bytes c.args.limits.workers ((g.O.Opener.seen c.args.files.now).files 0))) (sym c.in-Mailbox.is) c.run-in-Mailbox.ensures.left
