use Rattle.std.proofs.Common.{List, ℕ, refl, subst}
use Rattle.std.proofs.lemmas.Result.{err_from_is_err_and}
use Rattle.std.specs.Io.KnownBytes.{Appends}
use Rattle.operating.specs.declared.asking.Ending.TheVariants as ending
use Rattle.operating.specs.ConvictingFiles.{RefusesConviction}
use Rattle.bulwynef.specs.Explained.{AreConvictingTexts, ExplainProof}
use Rattle.operating.proofs.Endings.{files_refused, not_written, written}
use Rattle.bulwynef.proofs.explaining_files.proof.run.Goals as goal

pub returns-in_err-text : goal.returns-in_err-text
returns-in_err-text g c =
    let p = err_from_is_err_and c.from_residual.result c.from_residual.ensures.1 in
    let old = g.O.Opener.seen c.args.opener.now in
    rw (p.1, p.2) (files_refused (AreConvictingTexts g.P.Program.means c.args.limits.most_bytes old.files) (RefusesConviction g.P.Program.means c.args.limits.most_bytes old.files) (ExplainProof c.args.explaining.now.followed.name.now c.args.explaining.now.is_page) old (g.O.Opener.seen c.text_of_files.new.opener) g.W.Sink.seen c.args.writer.now
    c.in_err-text.field-0.0 c.in_err-text.ensures.refused c.in_err-text.ensures.blamed)

pub returns-in_err-write : goal.returns-in_err-write
returns-in_err-write g c =
    let p = err_from_is_err_and c.from_residual-in_err-write.result c.from_residual-in_err-write.ensures.1 in
    let old = g.O.Opener.seen c.args.opener.now in
    let failed = c.in_err-write.ensures.failed in
    let (x, are, b, basis, explains) = c.in_ok-text.ensures.told in
    rw (p.1, p.2) (not_written (AreConvictingTexts g.P.Program.means c.args.limits.most_bytes old.files) (RefusesConviction g.P.Program.means c.args.limits.most_bytes old.files) (ExplainProof c.args.explaining.now.followed.name.now c.args.explaining.now.is_page) old (g.O.Opener.seen c.text_of_files.new.opener) g.W.Sink.seen c.args.writer.now
    x c.in_ok-text.text.items ending.Exposed c.in_err-write.field-0.0 c.write.new.writer are ((b, basis, explains), refl) failed.1 failed.0 failed.2)

pub returns : goal.returns
returns g c =
    let old = g.O.Opener.seen c.args.opener.now in
    let (x, are, b, basis, explains) = c.in_ok-text.ensures.told in
    let appended = subst (λ (t : List ℕ). Appends (g.W.Sink.seen c.args.writer.now).written (g.W.Sink.seen c.write.new.writer).written t) c.deref.ensures.value c.in_ok-write.ensures.written in
    written (AreConvictingTexts g.P.Program.means c.args.limits.most_bytes old.files) (RefusesConviction g.P.Program.means c.args.limits.most_bytes old.files) (ExplainProof c.args.explaining.now.followed.name.now c.args.explaining.now.is_page) old (g.O.Opener.seen c.text_of_files.new.opener) g.W.Sink.seen c.args.writer.now
    x c.in_ok-text.text.items ending.Exposed c.write.new.writer are ((b, basis, explains), refl) appended c.in_ok-write.ensures.quiet c.in_ok-text.ensures.quiet
