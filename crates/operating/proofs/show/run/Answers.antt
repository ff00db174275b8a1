use Rattle.std.proofs.Common.{ℕ, List, None, Ok, Option, inl, subst}
use Rattle.std.proofs.lemmas.Result.{err_from_is_err_and}
use Rattle.std.specs.Io.KnownBytes.{Appends}
use Rattle.operating.specs.declared.asking.Ending.TheVariants as ending
use Rattle.operating.specs.declared.refusal.Refusal.{Refusal}
use Rattle.operating.specs.FileTexts.{IsUnsaid, Says}
use Rattle.operating.specs.GatheredFiles.{IsOfFile}
use Rattle.operating.specs.Questions.{Show}
use Rattle.operating.proofs.Blames.{memory_own}
use Rattle.operating.proofs.Endings.{files_refused, not_answered, not_written, written}
use Rattle.operating.proofs.show.run.Goals as goal

abbrev reads : ℕ → (ℕ → Option (List ℕ)) → List ℕ → Type 0
reads limit files = Says limit None (files 0)

abbrev refuses : ℕ → (ℕ → Option (List ℕ)) → Refusal → Type 0
refuses limit files r = IsOfFile 0 r × IsUnsaid limit None (files 0) r.fault

pub returns-in_err-text : goal.returns-in_err-text
returns-in_err-text g c =
    let p = err_from_is_err_and c.from_residual.result c.from_residual.ensures.1 in
    let old = g.O.Opener.seen c.args.opener.now in
    rw (p.1, p.2) (files_refused (reads c.args.limits.most_bytes old.files) (refuses c.args.limits.most_bytes old.files) (Show c.args.style) old (g.O.Opener.seen c.read_said.new.opener) g.W.Sink.seen c.args.writer.now
    c.in_err-text.field-0.0 c.in_err-text.ensures.refused c.in_err-text.ensures.blamed)

pub returns-in-Err : goal.returns-in-Err
returns-in-Err g c =
    let old = g.O.Opener.seen c.args.opener.now in
    not_answered (reads c.args.limits.most_bytes old.files) (refuses c.args.limits.most_bytes old.files) (Show c.args.style) old (g.O.Opener.seen c.read_said.new.opener) g.W.Sink.seen c.args.writer.now
    c.in_ok-text.text.items c.of_none.result c.in_ok-text.ensures.said c.of_none.ensures.1 (inl c.of_none.ensures.0) (memory_own c.of_none.result.fault c.of_none.ensures.0)

pub returns-in_err-write : goal.returns-in_err-write
returns-in_err-write g c =
    let p = err_from_is_err_and c.from_residual-in_err-write.result c.from_residual-in_err-write.ensures.1 in
    let old = g.O.Opener.seen c.args.opener.now in
    let failed = c.in_err-write.ensures.failed in
    let shows = subst (λ (t : List ℕ). Show c.args.style t (Ok (c.in-Ok.shown.items, ending.Done))) c.deref.ensures.value c.in-Ok.ensures in
    rw (p.1, p.2) (not_written (reads c.args.limits.most_bytes old.files) (refuses c.args.limits.most_bytes old.files) (Show c.args.style) old (g.O.Opener.seen c.read_said.new.opener) g.W.Sink.seen c.args.writer.now
    c.in_ok-text.text.items c.in-Ok.shown.items ending.Done c.in_err-write.field-0.0 c.write.new.writer c.in_ok-text.ensures.said shows failed.1 failed.0 failed.2)

pub returns : goal.returns
returns g c =
    let old = g.O.Opener.seen c.args.opener.now in
    let shows = subst (λ (t : List ℕ). Show c.args.style t (Ok (c.in-Ok.shown.items, ending.Done))) c.deref.ensures.value c.in-Ok.ensures in
    let appended = subst (λ (t : List ℕ). Appends (g.W.Sink.seen c.args.writer.now).written (g.W.Sink.seen c.write.new.writer).written t) c.deref-2.ensures.value c.in_ok-write.ensures.written in
    written (reads c.args.limits.most_bytes old.files) (refuses c.args.limits.most_bytes old.files) (Show c.args.style) old (g.O.Opener.seen c.read_said.new.opener) g.W.Sink.seen c.args.writer.now
    c.in_ok-text.text.items c.in-Ok.shown.items ending.Done c.write.new.writer c.in_ok-text.ensures.said shows appended c.in_ok-write.ensures.quiet c.in_ok-text.ensures.quiet
