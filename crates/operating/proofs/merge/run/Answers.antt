use Rattle.std.proofs.Common.{refl}
use Rattle.std.proofs.lemmas.Result.{err_from_is_err_and}
use Rattle.evidence.specs.Exports.{export_of}
use Rattle.operating.specs.declared.asking.Ending.TheVariants as ending
use Rattle.operating.specs.GatheredFiles.{AreGathered, RefusesFiles, under}
use Rattle.operating.specs.Questions.{Merge}
use Rattle.operating.proofs.Endings.{files_refused, not_whole, written}
use Rattle.operating.proofs.merge.run.Goals as goal

pub returns-in_err-read : goal.returns-in_err-read
returns-in_err-read g c =
    let p = err_from_is_err_and c.from_residual.result c.from_residual.ensures.1 in
    let files = (g.O.Opener.seen c.args.opener.now).files in
    let limit = c.args.reading.now.limits.most_bytes in
    rw (p.1, p.2) (files_refused (AreGathered limit files c.args.stores) (RefusesFiles limit files c.args.stores) Merge (g.O.Opener.seen c.args.opener.now) (g.O.Opener.seen c.gather.new.opener) g.W.Sink.seen c.args.writer.now
    c.in_err-read.field-0.0 c.in_err-read.ensures.refused c.in_err-read.ensures.blamed)

pub returns-in_err-write_text : goal.returns-in_err-write_text
returns-in_err-write_text g c =
    let p = err_from_is_err_and c.from_residual-in_err-write_text.result c.from_residual-in_err-write_text.ensures.1 in
    let files = (g.O.Opener.seen c.args.opener.now).files in
    let limit = c.args.reading.now.limits.most_bytes in
    let read = c.in_ok-read.read in
    let failed = c.in_err-write_text.ensures in
    rw (p.1, p.2) (not_whole (AreGathered limit files c.args.stores) (RefusesFiles limit files c.args.stores) Merge (g.O.Opener.seen c.args.opener.now) (g.O.Opener.seen c.gather.new.opener) g.W.Sink.seen c.args.writer.now
    (under read.directory.items read.store) (export_of read.store.items) ending.Done c.in_err-write_text.field-0.0 c.write_text.new.writer c.in_ok-read.ensures.gathered refl failed.place failed.refused)

pub returns : goal.returns
returns g c =
    let files = (g.O.Opener.seen c.args.opener.now).files in
    let limit = c.args.reading.now.limits.most_bytes in
    let read = c.in_ok-read.read in
    written (AreGathered limit files c.args.stores) (RefusesFiles limit files c.args.stores) Merge (g.O.Opener.seen c.args.opener.now) (g.O.Opener.seen c.gather.new.opener) g.W.Sink.seen c.args.writer.now
    (under read.directory.items read.store) (export_of read.store.items) ending.Done c.write_text.new.writer c.in_ok-read.ensures.gathered refl c.in_ok-write_text.ensures.written c.in_ok-write_text.ensures.quiet c.in_ok-read.ensures.quiet
