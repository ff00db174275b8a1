use Rattle.std.proofs.Common.{List, ℕ, inl, inr, sym, subst}
use Rattle.std.specs.Prelude.{◌⊎◌, ◌≡◌}
use Rattle.std.proofs.lemmas.Result.{err_from_is_err_and}
use Rattle.containers.specs.declared.fault.Cause.TheVariants as cause
use Rattle.containers.specs.Container.{import_of}
use Rattle.containers.specs.DecodedItems.{decoded_of}
use Rattle.containers.specs.Refusals as container
use Rattle.evidence.specs.Exports.{magic_of}
use Rattle.shards.specs.Parts.{Decodes}
use Rattle.commands.specs.Refusals.{of_import}
use Rattle.commands.proofs.Refused.{cause_own}
use Rattle.operating.specs.FileTexts.{IsOfReading}
use Rattle.operating.proofs.Blames.{own_blames}
use Rattle.operating.proofs.split.add_file.Goals as goal

pub returns-in_err-text-clause-refused : goal.returns-in_err-text-clause-refused
returns-in_err-text-clause-refused g c =
    let p = err_from_is_err_and c.from_residual.result c.from_residual.ensures.1 in
    let told = c.in_err-text.ensures.refused in
    rw (p.1, p.2) (told.0.0, inl (told.0.1, told.1))

pub returns-in-Ok-clause-added : goal.returns-in-Ok-clause-added
returns-in-Ok-clause-added g c =
    let (own, decodes, is) = c.in-Ok.ensures.added in
    (own, c.in_ok-text.text.items, c.in_ok-text.ensures.said, subst (λ (t : List ℕ). Decodes t own) c.deref.ensures.value decodes, is)

pub returns-clause-refused : goal.returns-clause-refused
returns-clause-refused g c =
    let (told, file, item) = c.of_import.ensures in
    let f = c.in-Err.fault in (
      file,
      inr (
        c.in_ok-text.text.items,
        c.in_ok-text.ensures.said,
        (f, told, item, subst (λ (t : List ℕ). container.Refuses f (import_of (magic_of t) decoded_of t) ⊎ (f.cause ≡ cause.Memory)) c.deref.ensures.value c.in-Err.ensures.refused),
      ),
    )

pub returns-clause-blamed : goal.returns-clause-blamed
returns-clause-blamed g c =
    let (told, file, item) = c.of_import.ensures in
    let old = g.O.Opener.seen c.args.opener.now in
    let new = g.O.Opener.seen c.read_said.new.opener in
    subst (IsOfReading old new) (sym told) (own_blames old new (of_import c.in-Err.fault) (cause_own c.in-Err.fault.cause))
