use Rattle.std.proofs.Common.{◌∙◌, List, ℕ, inl, subst, refl, ap}
use Rattle.std.proofs.lemmas.Result.{err_from_is_err_and}
use Rattle.std.specs.Io.KnownBytes.{Appends}
use Rattle.answers.specs.declared.style.Style.{Style}
use Rattle.answers.specs.Texts.{conviction_text}
use Rattle.operating.specs.declared.asking.Ending.TheVariants as ending
use Rattle.operating.specs.declared.check.Found.{Found}
use Rattle.operating.specs.ConvictingFiles.{AreConvictingUnder, RefusesConviction}
use Rattle.operating.specs.Questions.{Check}
use Rattle.operating.proofs.Blames.{memory_own}
use Rattle.operating.proofs.Endings.{files_refused, not_answered, not_written, written}
use Rattle.operating.proofs.check.run.Goals as goal

-- what is found, and what is written of it
abbrev found : Found → ℕ × List ℕ
found x = (x.node, x.directory.items)

abbrev told : Style → List ℕ → Found → List ℕ
told style name x = conviction_text style x.node name x.directory.items

pub returns-in_err-found : goal.returns-in_err-found
returns-in_err-found g c =
    let p = err_from_is_err_and c.from_residual.result c.from_residual.ensures.1 in
    let old = g.O.Opener.seen c.args.opener.now in
    rw (p.1, p.2) (files_refused (AreConvictingUnder g.P.Program.means c.args.limits.most_bytes old.files) (RefusesConviction g.P.Program.means c.args.limits.most_bytes old.files) (Check c.args.convicting.now.style c.args.convicting.now.name.now) old (g.O.Opener.seen c.convicted.new.opener) g.W.Sink.seen c.args.writer.now
    c.in_err-found.field-0.0 c.in_err-found.ensures.refused c.in_err-found.ensures.blamed)

pub returns-in-Err : goal.returns-in-Err
returns-in-Err g c =
    let old = g.O.Opener.seen c.args.opener.now in
    not_answered (AreConvictingUnder g.P.Program.means c.args.limits.most_bytes old.files) (RefusesConviction g.P.Program.means c.args.limits.most_bytes old.files) (Check c.args.convicting.now.style c.args.convicting.now.name.now) old (g.O.Opener.seen c.convicted.new.opener) g.W.Sink.seen c.args.writer.now
    (found c.in_ok-found.found) c.of_none.result c.in_ok-found.ensures.convicted c.of_none.ensures.1 (inl c.of_none.ensures.0) (memory_own c.of_none.result.fault c.of_none.ensures.0)

pub returns-in_err-write : goal.returns-in_err-write
returns-in_err-write g c =
    let p = err_from_is_err_and c.from_residual-in_err-write.result c.from_residual-in_err-write.ensures.1 in
    let old = g.O.Opener.seen c.args.opener.now in
    let failed = c.in_err-write.ensures.failed in
    rw (p.1, p.2) (not_written (AreConvictingUnder g.P.Program.means c.args.limits.most_bytes old.files) (RefusesConviction g.P.Program.means c.args.limits.most_bytes old.files) (Check c.args.convicting.now.style c.args.convicting.now.name.now) old (g.O.Opener.seen c.convicted.new.opener) g.W.Sink.seen c.args.writer.now
    (found c.in_ok-found.found) (told c.args.convicting.now.style c.args.convicting.now.name.now c.in_ok-found.found) ending.Done c.in_err-write.field-0.0 c.write.new.writer c.in_ok-found.ensures.convicted refl failed.1 failed.0 failed.2)

pub returns : goal.returns
returns g c =
    let old = g.O.Opener.seen c.args.opener.now in
    let here = ap (λ (text : List ℕ). conviction_text c.args.convicting.now.style c.in_ok-found.found.node c.args.convicting.now.name.now text) c.deref.ensures.value in
    let line = c.deref-2.ensures.value ∙ c.in-Ok.ensures ∙ here in
    let appended = subst (λ (t : List ℕ). Appends (g.W.Sink.seen c.args.writer.now).written (g.W.Sink.seen c.write.new.writer).written t) line c.in_ok-write.ensures.written in
    written (AreConvictingUnder g.P.Program.means c.args.limits.most_bytes old.files) (RefusesConviction g.P.Program.means c.args.limits.most_bytes old.files) (Check c.args.convicting.now.style c.args.convicting.now.name.now) old (g.O.Opener.seen c.convicted.new.opener) g.W.Sink.seen c.args.writer.now
    (found c.in_ok-found.found) (told c.args.convicting.now.style c.args.convicting.now.name.now c.in_ok-found.found) ending.Done c.write.new.writer c.in_ok-found.ensures.convicted refl appended c.in_ok-write.ensures.quiet c.in_ok-found.ensures.quiet
