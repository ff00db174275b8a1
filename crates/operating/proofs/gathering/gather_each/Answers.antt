use Rattle.std.proofs.Common.{◌≡◌, ◌∙◌, ◌+◌, ℕ, List, Option, Some, suc, inl, arith, subst}
use Rattle.std.proofs.lemmas.Result.{err_from_is_err_and}
use Rattle.evidence.specs.Contents.{Contents}
use Rattle.commands.specs.Adding.{AddsStore}
use Rattle.operating.specs.FileTexts.{Says}
use Rattle.operating.specs.GatheredFiles.{RefusesStore, under}
use Rattle.operating.proofs.Blames.{later_blames}
use Rattle.operating.proofs.Gathered.{store_added, store_refused}
use Rattle.operating.proofs.gathering.gather_each.Goals as goal

pub returns-in_err-read-clause-refused : goal.returns-in_err-read-clause-refused
returns-in_err-read-clause-refused g c =
    let p = err_from_is_err_and c.from_residual.result c.from_residual.ensures.1 in
    rw (p.1, p.2) (inl c.in_err-read.ensures.refused)

pub returns-in_err-front-clause-refused : goal.returns-in_err-front-clause-refused
returns-in_err-front-clause-refused g c =
    let p = err_from_is_err_and c.from_residual-in_err-front.result c.from_residual-in_err-front.ensures.1 in
    let n = c.loop-number.number in
    let at : n + 1 ≡ suc n = omega arith in
    let limit = c.args.reading.now.limits.most_bytes in
    let s = g.S.Evidence.contents c.loop-number.store in
    let now = (g.O.Opener.seen c.loop-number.opener).files in
    let r = c.in_err-front.field-0.0 in
    let told = subst (λ (d : List ℕ). (r.file ≡ Some (n + 1)) × RefusesStore limit (under d s) (now (n + 1)) r) c.deref.ensures.value c.in_err-front.ensures.refused in
    rw (p.1, p.2) (store_refused limit (g.O.Opener.seen c.args.opener.now).files now c.args.stores n (n + 1) (under c.in_ok-read.read.directory.items s) r at
    c.loop-number.invariant.files c.loop-number-test.true c.loop-number.invariant.gathered told)

pub returns-in_err-front-clause-blamed : goal.returns-in_err-front-clause-blamed
returns-in_err-front-clause-blamed g c =
    let p = err_from_is_err_and c.from_residual-in_err-front.result c.from_residual-in_err-front.ensures.1 in
    rw (p.1, p.2) (later_blames (g.O.Opener.seen c.args.opener.now) (g.O.Opener.seen c.loop-number.opener) (g.O.Opener.seen c.add_file.new.opener) c.in_err-front.field-0.0.fault c.loop-number.invariant.quiet c.in_err-front.ensures.blamed)

pub loop-number-preserved : goal.loop-number-preserved
loop-number-preserved g c =
    let n = c.loop-number.number in
    let at : n + 1 ≡ suc n = omega arith in
    let limit = c.args.reading.now.limits.most_bytes in
    let s = g.S.Evidence.contents c.loop-number.store in
    let t = g.S.Evidence.contents c.add_file.new.store in
    let now = (g.O.Opener.seen c.loop-number.opener).files in
    let added = subst (λ (d : List ℕ). (text : List ℕ) × Says limit (Some d) (now (n + 1)) text × AddsStore s t text) c.deref.ensures.value c.in_ok-front.ensures.added in
    record {
      gathered = store_added limit (g.O.Opener.seen c.args.opener.now).files now n (n + 1) c.in_ok-read.read.directory.items s t at c.loop-number.invariant.files c.loop-number.invariant.gathered added;
      files = c.in_ok-front.ensures.files ∙ c.loop-number.invariant.files;
      quiet = c.in_ok-front.ensures.quiet ∙ c.loop-number.invariant.quiet;
    }
