use Rattle.std.proofs.Common.{ℕ, List, Option, inl, refl, subst}
use Rattle.std.proofs.lemmas.Result.{err_from_is_err_and}
use Rattle.std.specs.Io.KnownBytes.{Appends}
use Rattle.authenticators.specs.Directory.{Listing}
use Rattle.operating.specs.declared.asking.Ending.TheVariants as ending
use Rattle.operating.specs.declared.refusal.Refusal.{Refusal}
use Rattle.operating.specs.FileTexts.{SaysDirectory}
use Rattle.operating.specs.GatheredFiles.{IsOfFile, RefusesDirectory}
use Rattle.bulwynef.specs.Explained.{ExplainDirectory}
use Rattle.operating.proofs.Blames.{memory_own}
use Rattle.operating.proofs.Endings.{files_refused, not_answered, not_written, written}
use Rattle.bulwynef.proofs.explaining_files.directory.run.Goals as goal

abbrev reads : ℕ → (ℕ → Option (List ℕ)) → Listing → Type 0
reads limit files = SaysDirectory limit (files 0)

abbrev refuses : ℕ → (ℕ → Option (List ℕ)) → Refusal → Type 0
refuses limit files r = IsOfFile 0 r × RefusesDirectory limit (files 0) r.fault

pub returns-in_err-read : goal.returns-in_err-read
returns-in_err-read g c =
    let p = err_from_is_err_and c.from_residual.result c.from_residual.ensures.1 in
    let old = g.O.Opener.seen c.args.opener.now in
    rw (p.1, p.2) (files_refused (reads c.args.limits.most_bytes old.files) (refuses c.args.limits.most_bytes old.files) (ExplainDirectory c.args.is_page) old (g.O.Opener.seen c.read_directory_file.new.opener) g.W.Sink.seen c.args.writer.now
    c.in_err-read.field-0.0 c.in_err-read.ensures.refused c.in_err-read.ensures.blamed)

pub returns-in-Err : goal.returns-in-Err
returns-in-Err g c =
    let old = g.O.Opener.seen c.args.opener.now in
    not_answered (reads c.args.limits.most_bytes old.files) (refuses c.args.limits.most_bytes old.files) (ExplainDirectory c.args.is_page) old (g.O.Opener.seen c.read_directory_file.new.opener) g.W.Sink.seen c.args.writer.now
    c.in_ok-read.read.directory c.of_none.result c.in_ok-read.ensures.said c.of_none.ensures.1 (inl c.of_none.ensures.0) (memory_own c.of_none.result.fault c.of_none.ensures.0)

pub returns-in_err-write : goal.returns-in_err-write
returns-in_err-write g c =
    let p = err_from_is_err_and c.from_residual-in_err-write.result c.from_residual-in_err-write.ensures.1 in
    let old = g.O.Opener.seen c.args.opener.now in
    let failed = c.in_err-write.ensures.failed in
    rw (p.1, p.2) (not_written (reads c.args.limits.most_bytes old.files) (refuses c.args.limits.most_bytes old.files) (ExplainDirectory c.args.is_page) old (g.O.Opener.seen c.read_directory_file.new.opener) g.W.Sink.seen c.args.writer.now
    c.in_ok-read.read.directory c.in-Ok.text.items ending.Done c.in_err-write.field-0.0 c.write.new.writer c.in_ok-read.ensures.said (c.in-Ok.ensures, refl) failed.1 failed.0 failed.2)

pub returns : goal.returns
returns g c =
    let old = g.O.Opener.seen c.args.opener.now in
    let appended = subst (λ (t : List ℕ). Appends (g.W.Sink.seen c.args.writer.now).written (g.W.Sink.seen c.write.new.writer).written t) c.deref.ensures.value c.in_ok-write.ensures.written in
    written (reads c.args.limits.most_bytes old.files) (refuses c.args.limits.most_bytes old.files) (ExplainDirectory c.args.is_page) old (g.O.Opener.seen c.read_directory_file.new.opener) g.W.Sink.seen c.args.writer.now
    c.in_ok-read.read.directory c.in-Ok.text.items ending.Done c.write.new.writer c.in_ok-read.ensures.said (c.in-Ok.ensures, refl) appended c.in_ok-write.ensures.quiet c.in_ok-read.ensures.quiet
