use Rattle.std.proofs.Common.{sym}
use Rattle.std.proofs.lemmas.Result.{err_from_is_err_and}
use Rattle.item_forms.specs.declared.forms.Fields.TheVariants as form
use Rattle.evidence_item.specs.Validity.{early_fault, fault_of}
use Rattle.proofs.proofs.Convictions.{no_fault, second_early}
use Rattle.proofs.proofs.checking.check_auth_segment.Goals as goal

pub returns-in_err-hashes-clause-early : goal.returns-in_err-hashes-clause-early
returns-in_err-hashes-clause-early c = λ e is.
    let p = err_from_is_err_and c.from_residual-in_err-hashes.result c.from_residual-in_err-hashes.ensures.1 in
    let auth = fault_of c.args.directory.now (form.Auth c.args.auth.now) in
    let early = early_fault c.args.directory.now (form.Segment c.args.segment.now) in
    let t = second_early auth early e (no_fault auth _ _ (sym c.in_ok-check_auth.ensures)) is in
    let told = c.in_err-hashes.ensures.forbidden t.0 t.1 in
    rw (p.1, p.2) cc
