use Rattle.std.proofs.Common.{sym, subst}
use Rattle.operating.specs.FileTexts.{IsOfReading}
use Rattle.operating.proofs.Blames.{own_blames}
use Rattle.operating.proofs.play.run.Goals as goal

pub returns-in-Err-clause-blamed : goal.returns-in-Err-clause-blamed
returns-in-Err-clause-blamed g c =
    let (told, file, item) = c.of_text.ensures in
    let old = g.O.Opener.seen c.args.opener.now in
    let new = g.O.Opener.seen c.read_said.new.opener in
    subst (IsOfReading old new) (sym told) (own_blames old new c.in-Err.fault c.in-Err.ensures.own)
