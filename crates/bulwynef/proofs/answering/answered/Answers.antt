use Rattle.std.proofs.Common.{◌≡◌, sym, subst}
use Rattle.bulwynef.specs.Answered.{Answered}
use Rattle.bulwynef.specs.Programs.{meaning_of}
use Rattle.bulwynef.specs.declared.programs.ProgramName.{ProgramName}
use Rattle.bulwynef.proofs.answering.answered.Goals as goal

pub returns-in-Tally : goal.returns-in-Tally
returns-in-Tally g c = subst (λ (name : ProgramName). Answered (meaning_of name) c.args.asking.now.name c.args.query c.args.asking.now.limits.most_bytes c.args.asking.now.others c.answered_under.result (g.O.Opener.seen c.args.files.now) (g.O.Opener.seen c.answered_under.new.files) g.W.Sink.seen c.args.writer.now c.answered_under.new.writer) (sym c.in-Tally.is) c.answered_under.ensures

pub returns-in-Relay : goal.returns-in-Relay
returns-in-Relay g c = subst (λ (name : ProgramName). Answered (meaning_of name) c.args.asking.now.name c.args.query c.args.asking.now.limits.most_bytes c.args.asking.now.others c.answered_under-in-Relay.result (g.O.Opener.seen c.args.files.now) (g.O.Opener.seen c.answered_under-in-Relay.new.files) g.W.Sink.seen c.args.writer.now c.answered_under-in-Relay.new.writer) (sym c.in-Relay.is) c.answered_under-in-Relay.ensures

pub returns-in-Mailbox : goal.returns-in-Mailbox
returns-in-Mailbox g c = subst (λ (name : ProgramName). Answered (meaning_of name) c.args.asking.now.name c.args.query c.args.asking.now.limits.most_bytes c.args.asking.now.others c.answered_under-in-Mailbox.result (g.O.Opener.seen c.args.files.now) (g.O.Opener.seen c.answered_under-in-Mailbox.new.files) g.W.Sink.seen c.args.writer.now c.answered_under-in-Mailbox.new.writer) (sym c.in-Mailbox.is) c.answered_under-in-Mailbox.ensures
