use Rattle.std.proofs.Common.{◌≡◌, ◌∙◌, List, ℕ, Ok, inl, inr, sym, ap, subst}
use Rattle.std.proofs.lemmas.Result.{err_from_is_err_and}
use Rattle.authenticators.specs.Directory.{Listing}
use Rattle.authenticators.specs.DirectoryText.{directory_of}
use Rattle.commands.specs.declared.fault.Fault.{Fault}
use Rattle.commands.specs.declared.fault.Fault.TheVariants as fault
use Rattle.evidence.specs.Contents.{Contents}
use Rattle.operating.specs.FileTexts.{IsOfReading}
use Rattle.operating.proofs.Blames.{memory_blames}
use Rattle.operating.proofs.gathering.begin.Goals as goal

pub returns-in_err-front-clause-refused : goal.returns-in_err-front-clause-refused
returns-in_err-front-clause-refused g c =
    let p = err_from_is_err_and c.from_residual.result c.from_residual.ensures.1 in
    rw (p.1, p.2) c.in_err-front.ensures.refused

pub returns-in-Ok-clause-empty : goal.returns-in-Ok-clause-empty
returns-in-Ok-clause-empty g c =
    let same = ap (λ (s : Contents). s.directory) c.in-Ok.ensures.empty in
    (subst (λ (ds : Listing). directory_of c.in_ok-front.front.text.items ≡ Ok ds) (sym same) c.in_ok-front.ensures.read, ap (λ (s : Contents). s.items) c.in-Ok.ensures.empty)

pub returns-in-Err-clause-refused : goal.returns-in-Err-clause-refused
returns-in-Err-clause-refused g c =
    let (told, file, item) = c.of_file.ensures in
    let (t, says, is, under) = c.in_ok-front.ensures.said in
    (file, inr (inl (t, says, item, inl told)))

pub returns-in-Err-clause-blamed : goal.returns-in-Err-clause-blamed
returns-in-Err-clause-blamed g c =
    let (told, file, item) = c.of_file.ensures in
    memory_blames (g.O.Opener.seen c.args.opener.now) (g.O.Opener.seen c.read_front.new.opener) c.of_file.result.fault told
