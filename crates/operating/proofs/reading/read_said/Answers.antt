use Rattle.std.proofs.Common.{sym, subst}
use Rattle.std.proofs.lemmas.Result.{err_from_is_err_and}
use Rattle.operating.specs.FileTexts.{IsOfReading}
use Rattle.operating.proofs.Blames.{own_blames}
use Rattle.operating.proofs.Saying.{misplaced, says, unsaid}
use Rattle.operating.proofs.reading.read_said.Goals as goal

pub returns-in_err-texts-clause-refused : goal.returns-in_err-texts-clause-refused
returns-in_err-texts-clause-refused g c =
    let p = err_from_is_err_and c.from_residual.result c.from_residual.ensures.1 in
    let told = c.in_err-texts.ensures.refused in
    rw (p.1, p.2) (told.0, unsaid c.args.limits.most_bytes _ ((g.O.Opener.seen c.args.opener.now).files c.args.file) c.in_err-texts.field-0.0.fault told.1)

pub returns-in-Ok-clause-said : goal.returns-in-Ok-clause-said
returns-in-Ok-clause-said g c = says c.args.limits.most_bytes _ ((g.O.Opener.seen c.args.opener.now).files c.args.file) _ c.in-Ok.text.items c.in_ok-texts.ensures.said c.in-Ok.ensures.told

pub returns-in-Err-clause-refused : goal.returns-in-Err-clause-refused
returns-in-Err-clause-refused g c =
    let (told, file, item) = c.of_file.ensures in
    ((file, item), misplaced c.args.limits.most_bytes _ ((g.O.Opener.seen c.args.opener.now).files c.args.file) _ c.in-Err.fault c.of_file.result.fault told c.in_ok-texts.ensures.said c.in-Err.ensures.told)

pub returns-in-Err-clause-blamed : goal.returns-in-Err-clause-blamed
returns-in-Err-clause-blamed g c =
    let (told, file, item) = c.of_file.ensures in
    let old = g.O.Opener.seen c.args.opener.now in
    let new = g.O.Opener.seen c.read_texts.new.opener in
    subst (IsOfReading old new) (sym told) (own_blames old new c.in-Err.fault c.in-Err.ensures.own)
