use Rattle.std.proofs.Common.{inl, inr}
use Rattle.std.proofs.lemmas.Result.{err_from_is_err_and}
use Rattle.operating.proofs.Blames.{own_blames}
use Rattle.operating.proofs.gathering.add_file.Goals as goal

pub returns-in_err-text-clause-refused : goal.returns-in_err-text-clause-refused
returns-in_err-text-clause-refused g c =
    let p = err_from_is_err_and c.from_residual.result c.from_residual.ensures.1 in
    let told = c.in_err-text.ensures.refused in
    rw (p.1, p.2) (told.0.0, inl (told.0.1, told.1))

pub returns-in_err-add_text-clause-refused : goal.returns-in_err-add_text-clause-refused
returns-in_err-add_text-clause-refused g c =
    let p = err_from_is_err_and c.from_residual-in_err-add_text.result c.from_residual-in_err-add_text.ensures.1 in
    let told = c.in_err-add_text.ensures.refused in
    rw (p.1, p.2) (told.0, inr (c.in_ok-text.text.items, c.in_ok-text.ensures.said, told.1))

pub returns-in_err-add_text-clause-blamed : goal.returns-in_err-add_text-clause-blamed
returns-in_err-add_text-clause-blamed g c =
    let p = err_from_is_err_and c.from_residual-in_err-add_text.result c.from_residual-in_err-add_text.ensures.1 in
    rw (p.1, p.2) (own_blames (g.O.Opener.seen c.args.opener.now) (g.O.Opener.seen c.read_said.new.opener) c.in_err-add_text.field-0.0.fault c.in_err-add_text.ensures.own)

pub returns-clause-added : goal.returns-clause-added
returns-clause-added g c =
    (c.in_ok-text.text.items, c.in_ok-text.ensures.said, c.in_ok-add_text.ensures.added)
