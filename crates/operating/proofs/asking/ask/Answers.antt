use Rattle.std.proofs.Common.{◌≡◌, List, ℕ, ◌⊎◌, Err, sym, subst}
use Rattle.std.proofs.lemmas.Result.{err_from_is_err_and}
use Rattle.std.specs.Io.KnownBytes.{Appends}
use Rattle.commands.specs.declared.fault.Fault.{Fault}
use Rattle.commands.specs.declared.fault.Fault.TheVariants as fault
use Rattle.commands.specs.within.OwnFaults.{IsOwn}
use Rattle.operating.specs.GatheredFiles.{AreGathered, RefusesFiles, under}
use Rattle.operating.proofs.Endings.{files_refused, not_answered, not_written, written}
use Rattle.operating.proofs.asking.ask.Goals as goal

pub returns-in_err-read : goal.returns-in_err-read
returns-in_err-read g c =
    let p = err_from_is_err_and c.from_residual.result c.from_residual.ensures.1 in
    let files = (g.O.Opener.seen c.args.opener.now).files in
    rw (p.1, p.2) (files_refused (AreGathered c.args.reading.now.limits.most_bytes files c.args.stores) (RefusesFiles c.args.reading.now.limits.most_bytes files c.args.stores) (g.Q.Question.means c.args.question.now) (g.O.Opener.seen c.args.opener.now) (g.O.Opener.seen c.gather.new.opener) g.W.Sink.seen c.args.writer.now
    c.in_err-read.field-0.0 c.in_err-read.ensures.refused c.in_err-read.ensures.blamed)

pub returns-in-Err : goal.returns-in-Err
returns-in-Err g c =
    let (told, none, item) = c.of_none.ensures in
    let question = g.Q.Question.means c.args.question.now in
    let read = under c.in_ok-read.read.directory.items (g.S.Evidence.contents c.in_ok-read.read.store) in
    let files = (g.O.Opener.seen c.args.opener.now).files in
    not_answered (AreGathered c.args.reading.now.limits.most_bytes files c.args.stores) (RefusesFiles c.args.reading.now.limits.most_bytes files c.args.stores) question (g.O.Opener.seen c.args.opener.now) (g.O.Opener.seen c.gather.new.opener) g.W.Sink.seen c.args.writer.now
    read c.of_none.result c.in_ok-read.ensures.gathered none
    (subst (λ (f : Fault). (f ≡ fault.Memory) ⊎ question read (Err f)) (sym told) c.in-Err.ensures.told) (subst IsOwn (sym told) c.in-Err.ensures.own)

pub returns-in_err-write : goal.returns-in_err-write
returns-in_err-write g c =
    let p = err_from_is_err_and c.from_residual-in_err-write.result c.from_residual-in_err-write.ensures.1 in
    let files = (g.O.Opener.seen c.args.opener.now).files in
    let failed = c.in_err-write.ensures.failed in
    rw (p.1, p.2) (not_written (AreGathered c.args.reading.now.limits.most_bytes files c.args.stores) (RefusesFiles c.args.reading.now.limits.most_bytes files c.args.stores) (g.Q.Question.means c.args.question.now) (g.O.Opener.seen c.args.opener.now) (g.O.Opener.seen c.gather.new.opener) g.W.Sink.seen c.args.writer.now
    (under c.in_ok-read.read.directory.items (g.S.Evidence.contents c.in_ok-read.read.store)) c.in-Ok.answer.text.items c.in-Ok.answer.ending c.in_err-write.field-0.0 c.write.new.writer c.in_ok-read.ensures.gathered c.in-Ok.ensures.told failed.1 failed.0 failed.2)

pub returns : goal.returns
returns g c =
    let files = (g.O.Opener.seen c.args.opener.now).files in
    let appended = subst (λ (t : List ℕ). Appends (g.W.Sink.seen c.args.writer.now).written (g.W.Sink.seen c.write.new.writer).written t) c.deref.ensures.value c.in_ok-write.ensures.written in
    written (AreGathered c.args.reading.now.limits.most_bytes files c.args.stores) (RefusesFiles c.args.reading.now.limits.most_bytes files c.args.stores) (g.Q.Question.means c.args.question.now) (g.O.Opener.seen c.args.opener.now) (g.O.Opener.seen c.gather.new.opener) g.W.Sink.seen c.args.writer.now
    (under c.in_ok-read.read.directory.items (g.S.Evidence.contents c.in_ok-read.read.store)) c.in-Ok.answer.text.items c.in-Ok.answer.ending c.write.new.writer c.in_ok-read.ensures.gathered c.in-Ok.ensures.told appended c.in_ok-write.ensures.quiet c.in_ok-read.ensures.quiet
