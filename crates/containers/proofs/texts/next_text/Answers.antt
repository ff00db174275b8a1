use Rattle.std.proofs.Common.{◌≡◌, ◌∙◌, List, ℕ, Result, Err, sym, ap}
use Rattle.outcome.specs.Outcome.{told_as}
use Rattle.log_chain.specs.declared.fault.FieldFault.{FieldFault}
use Rattle.log_chain.specs.Fields.{bytes_at}
use Rattle.item_forms.specs.declared.limits.TheConstants.{LONGEST_ITEM}
use Rattle.containers.specs.Container.{as_fault, of_field}
use Rattle.containers.proofs.Rest.{text_refused}
use Rattle.containers.proofs.texts.next_text.Goals as goal

pub returns-in-Err-clause-refused : goal.returns-in-Err-clause-refused
returns-in-Err-clause-refused c =
    let told : told_as (λ x. as_fault (of_field c.args.item x)) (bytes_at LONGEST_ITEM c.args.reader.now) ≡ Err c.field_fault.result =
    ap (λ (r : Result (List ℕ × List ℕ) FieldFault). told_as (λ x. as_fault (of_field c.args.item x)) r) c.in-Err.ensures.0 ∙ ap Err (sym c.field_fault.ensures)
    in
    λ reads n last before same. text_refused reads n c.args.item last before c.args.reader.now c.field_fault.result (sym same) told
