use Rattle.std.proofs.Common.{List, ℕ, ◌≡◌, ◌∙◌, Ok, inl, inr, sym, subst}
use Rattle.std.proofs.lemmas.Result.{err_from_is_err_and}
use Rattle.outcome.specs.Outcome.{Fails, told_as}
use Rattle.authenticators.specs.DirectoryText.{directory_of}
use Rattle.commands.specs.declared.fault.Fault.TheVariants as fault
use Rattle.commands.specs.Refusals.{of_directory}
use Rattle.operating.proofs.Blames.{own_blames}
use Rattle.operating.proofs.reading.read_front.Goals as goal

pub returns-in_err-texts-clause-refused : goal.returns-in_err-texts-clause-refused
returns-in_err-texts-clause-refused g c =
    let p = err_from_is_err_and c.from_residual.result c.from_residual.ensures.1 in
    let told = c.in_err-texts.ensures.refused in
    rw (p.1, p.2) (told.0.0, inl (told.0.1, told.1))

pub returns-clause-read : goal.returns-clause-read
returns-clause-read g c = subst (λ (t : List ℕ). directory_of t ≡ Ok c.in_ok-directory.directory) c.deref.ensures.value c.in_ok-directory.ensures.read

pub returns-clause-said : goal.returns-clause-said
returns-clause-said g c = (_, c.in_ok-texts.ensures.said, c.parted-text.ensures.directory, c.parted-text.ensures.under)

pub returns-in_err-directory-clause-refused : goal.returns-in_err-directory-clause-refused
returns-in_err-directory-clause-refused g c =
    let p = err_from_is_err_and c.from_residual-in_err-directory.result c.from_residual-in_err-directory.ensures.1 in
    let r = c.in_err-directory.field-0.0 in
    let told = c.in_err-directory.ensures.refused in
    let fails = subst (λ (t : List ℕ). Fails fault.Memory r.fault (told_as of_directory (directory_of t))) (c.deref.ensures.value ∙ c.parted-text.ensures.directory) told.1 in
    rw (p.1, p.2) (told.0.0, inr (inl (_, c.in_ok-texts.ensures.said, told.0.1, fails)))

pub returns-in_err-directory-clause-blamed : goal.returns-in_err-directory-clause-blamed
returns-in_err-directory-clause-blamed g c =
    let p = err_from_is_err_and c.from_residual-in_err-directory.result c.from_residual-in_err-directory.ensures.1 in
    rw (p.1, p.2) (own_blames (g.O.Opener.seen c.args.opener.now) (g.O.Opener.seen c.read_texts.new.opener) c.in_err-directory.field-0.0.fault c.in_err-directory.ensures.own)
