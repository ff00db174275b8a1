use Rattle.std.proofs.Common.{◌≡◌, ◌∙◌, ◌+◌, ℕ, List, Option, None, suc, subst, arith}
use Rattle.std.proofs.lemmas.Result.{err_from_is_err_and}
use Rattle.operating.specs.FileTexts.{Says}
use Rattle.operating.specs.Splitting.{Have, RefusesItems}
use Rattle.operating.proofs.Blames.{later_blames}
use Rattle.operating.proofs.split.read_items.Goals as goal

pub loop-number-preserved : goal.loop-number-preserved
loop-number-preserved g c =
    let n = c.loop-number.number in
    let limit = c.args.limits.most_bytes in
    let at : suc n ≡ n + 1 = omega arith in
    let (own, text, says, decodes, is) = c.in_ok-add_file.ensures.added in
    let says_first = subst (λ (files : ℕ → Option (List ℕ)). Says limit None (files (c.args.first + n)) text) c.loop-number.invariant.files says in
    record {
      have = subst (λ (m : ℕ). Have limit (g.O.Opener.seen c.args.opener.now).files c.args.first m c.add_file.new.items.items) at (c.loop-number.items.items, own, text, c.loop-number.invariant.have, says_first, decodes, is);
      files = c.in_ok-add_file.ensures.files ∙ c.loop-number.invariant.files;
      quiet = c.in_ok-add_file.ensures.quiet ∙ c.loop-number.invariant.quiet;
    }

pub returns-in_err-add_file-clause-refused : goal.returns-in_err-add_file-clause-refused
returns-in_err-add_file-clause-refused g c =
    let p = err_from_is_err_and c.from_residual.result c.from_residual.ensures.1 in
    let n = c.loop-number.number in
    let told = c.in_err-add_file.ensures.refused in
    rw (p.1, p.2) (n, c.loop-number.items.items, c.loop-number-test.true, c.loop-number.invariant.have, told.0, subst (λ (files : ℕ → Option (List ℕ)). RefusesItems c.args.limits.most_bytes (files (c.args.first + n)) c.in_err-add_file.field-0.0) c.loop-number.invariant.files told.1)

pub returns-in_err-add_file-clause-blamed : goal.returns-in_err-add_file-clause-blamed
returns-in_err-add_file-clause-blamed g c =
    let p = err_from_is_err_and c.from_residual.result c.from_residual.ensures.1 in
    rw (p.1, p.2) (later_blames (g.O.Opener.seen c.args.opener.now) (g.O.Opener.seen c.loop-number.opener) (g.O.Opener.seen c.add_file.new.opener) c.in_err-add_file.field-0.0.fault c.loop-number.invariant.quiet c.in_err-add_file.ensures.blamed)
