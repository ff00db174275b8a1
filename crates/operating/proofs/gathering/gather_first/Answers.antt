use Rattle.std.proofs.lemmas.Result.{err_from_is_err_and}
use Rattle.operating.proofs.Blames.{own_blames}
use Rattle.operating.proofs.Gathered.{first_gathered, under_refused}
use Rattle.operating.proofs.gathering.gather_first.Goals as goal

pub returns-in_err-begun-clause-refused : goal.returns-in_err-begun-clause-refused
returns-in_err-begun-clause-refused g c =
    let p = err_from_is_err_and c.from_residual.result c.from_residual.ensures.1 in
    rw (p.1, p.2) c.in_err-begun.ensures.refused

pub returns-in_err-read-clause-refused : goal.returns-in_err-read-clause-refused
returns-in_err-read-clause-refused g c =
    let p = err_from_is_err_and c.from_residual-in_err-read.result c.from_residual-in_err-read.ensures.1 in
    let begun = c.in_ok-begun.begun in
    rw (p.1, p.2) (under_refused c.args.reading.now.limits.most_bytes ((g.O.Opener.seen c.args.opener.now).files 0) begun.directory.items begun.under (g.S.Evidence.contents begun.store).directory c.in_err-read.field-0.0
    c.in_ok-begun.ensures.said c.in_ok-begun.ensures.empty.0 c.in_err-read.ensures.refused)

pub returns-in_err-read-clause-blamed : goal.returns-in_err-read-clause-blamed
returns-in_err-read-clause-blamed g c =
    let p = err_from_is_err_and c.from_residual-in_err-read.result c.from_residual-in_err-read.ensures.1 in
    rw (p.1, p.2) (own_blames (g.O.Opener.seen c.args.opener.now) (g.O.Opener.seen c.begin.new.opener) c.in_err-read.field-0.0.fault c.in_err-read.ensures.own)

pub returns-clause-gathered : goal.returns-clause-gathered
returns-clause-gathered g c =
    let begun = c.in_ok-begun.begun in
    first_gathered c.args.reading.now.limits.most_bytes (g.O.Opener.seen c.args.opener.now).files c.sets_are_as_expected.ensures begun.directory.items begun.under (g.S.Evidence.contents begun.store) (g.S.Evidence.contents c.in_ok-read.read.store) c.in_ok-read.read.directory.items
    c.in_ok-begun.ensures.said c.in_ok-begun.ensures.empty.0 c.in_ok-begun.ensures.empty.1 c.in_ok-read.ensures.directory c.in_ok-read.ensures.alone c.in_ok-read.ensures.more
