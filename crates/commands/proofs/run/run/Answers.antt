use Rattle.std.proofs.Common.{List, ℕ, rules, subst}
use Rattle.std.specs.Io.KnownBytes.{Appends}
use Rattle.commands.specs.Engines.{IsInput}
use Rattle.commands.specs.Scenarios.{Run}
use Rattle.commands.proofs.Endings.{not_written, written}
use Rattle.commands.proofs.run.run.Goals as goal

pub returns-in-Ok : goal.returns-in-Ok
returns-in-Ok g c =
    let input : IsInput (g.R.Source.seen c.args.reader.now).left c.in_ok-input.input.items = record { all = c.in_ok-input.ensures.all; within = search rules } in
    let appended = subst (λ (t : List ℕ). Appends (g.W.Sink.seen c.args.writer.now).written (g.W.Sink.seen c.write_all.new.self).written t) c.deref.ensures.value c.in-Ok.ensures.ok in
    written (Run g.P.Program.means c.args.workers) (g.R.Source.seen c.args.reader.now) (g.R.Source.seen c.read_input.new.reader) g.W.Sink.seen c.args.writer.now c.in_ok-input.ensures.few (search rules) c.in_ok-input.ensures.ended c.in_ok-input.input.items input
    c.in_ok-text.text.items c.in_ok-text.ensures.told c.write_all.new.self appended c.in-Ok.ensures.quiet

pub returns : goal.returns
returns g c =
    let input : IsInput (g.R.Source.seen c.args.reader.now).left c.in_ok-input.input.items = record { all = c.in_ok-input.ensures.all; within = search rules } in
    not_written (Run g.P.Program.means c.args.workers) (g.R.Source.seen c.args.reader.now) (g.R.Source.seen c.read_input.new.reader) g.W.Sink.seen c.args.writer.now c.in_ok-input.ensures.few (search rules) c.in_ok-input.ensures.ended c.in_ok-input.input.items input
    c.in_ok-text.text.items c.in_ok-text.ensures.told c.write_all.new.self c.in-Err.ensures.failed
