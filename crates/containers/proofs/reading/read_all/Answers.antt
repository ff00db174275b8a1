use Rattle.std.proofs.Common.{◌∙◌, List, inr, sym, ap, subst, arith}
use Rattle.std.specs.List.{All}
use Rattle.std.specs.Prelude.{Result}
use Rattle.std.proofs.lemmas.Result.{err_from_is_err_and}
use Rattle.evidence_item.specs.Checking.{Checked, IsChecked}
use Rattle.item_forms.specs.declared.forms.Fields.{Fields}
use Rattle.containers.specs.declared.fault.ImportFault.{ImportFault}
use Rattle.containers.specs.CheckedItems.{checked_of}
use Rattle.containers.specs.Refusals.{IsBehindFront}
use Rattle.containers.specs.within.Going.{at_end}
use Rattle.containers.specs.within.Seen.{seen}
use Rattle.containers.proofs.Fronts.{import_is, import_refused}
use Rattle.containers.proofs.reading.read_all.Goals as goal

pub returns-in_err-read-clause-refused : goal.returns-in_err-read-clause-refused
returns-in_err-read-clause-refused g c =
    let p = err_from_is_err_and c.from_residual.result c.from_residual.ensures.1 in
    rw (p.1, p.2) (import_refused c.args.magic (checked_of c.args.directory.now) c.args.bytes.now (seen c.new-progress.result) c.in_err-read.field-0.0 c.new-progress.ensures.begun c.in_err-read.ensures.refused)

pub returns-in_err-read-clause-memory : goal.returns-in_err-read-clause-memory
returns-in_err-read-clause-memory g c =
    let p = err_from_is_err_and c.from_residual.result c.from_residual.ensures.1 in
    let same = import_is c.args.magic (checked_of c.args.directory.now) c.args.bytes.now (seen c.new-progress.result) c.new-progress.ensures.begun in
    rw (p.1, p.2) (λ memory. subst (λ (r : Result (List Fields) ImportFault). IsBehindFront r) (sym same) (c.in_err-read.ensures.memory c.new-progress.ensures.body memory))

pub returns-in_err-items-clause-refused : goal.returns-in_err-items-clause-refused
returns-in_err-items-clause-refused g c =
    let p = err_from_is_err_and c.from_residual-in_err-items.result c.from_residual-in_err-items.ensures.1 in
    let same = import_is c.args.magic (checked_of c.args.directory.now) c.args.bytes.now (seen c.new-progress.result) c.new-progress.ensures.begun in
    rw (p.1, p.2) (inr (same ∙ ap at_end c.in_ok-read.ensures.ends.same ∙ c.in_err-items.ensures.fault))

pub returns-clause-items : goal.returns-clause-items
returns-clause-items g c =
    let same = import_is c.args.magic (checked_of c.args.directory.now) c.args.bytes.now (seen c.new-progress.result) c.new-progress.ensures.begun in
    let none : All (IsChecked c.args.directory.now g.P.Program.means) c.new-progress.result.items.items = subst (λ (xs : List Checked). All (IsChecked c.args.directory.now g.P.Program.means) xs) (sym c.new-progress.ensures.none) (λ k d lt. absurd (omega arith)) in
    record {
      read = same ∙ ap at_end c.in_ok-read.ensures.ends.same ∙ c.in_ok-items.ensures.items.0;
      checked = subst (λ (xs : List Checked). All (IsChecked c.args.directory.now g.P.Program.means) xs) (sym c.in_ok-items.ensures.items.1) (c.in_ok-read.ensures.checked none);
    }
