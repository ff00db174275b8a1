use Rattle.std.proofs.Common.{◌∙◌, List, sym, ap, subst}
use Rattle.std.specs.List.{All}
use Rattle.std.proofs.lemmas.List.Elements.{All-push}
use Rattle.evidence_item.specs.Checking.{Checked, IsChecked}
use Rattle.containers.specs.CheckedItems.{checked_of, fields_of}
use Rattle.containers.specs.within.Seen.{last_text}
use Rattle.containers.proofs.progress.keep_item.Goals as goal

pub returns-in-Ok-keep-clause-kept : goal.returns-in-Ok-keep-clause-kept
returns-in-Ok-keep-clause-kept g c = record {
  item = c.in-Ok.item;
  new_is = c.in-Ok-keep.ensures.kept;
  read = ap (λ (xs : List Checked). checked_of c.args.directory.now (last_text (fields_of xs)) c.args.text.now) (sym c.deref.ensures.value) ∙ c.in-Ok.ensures.exact;
  spelled = c.in-Ok.ensures.spelled;
}

pub returns-in-Ok-keep-clause-checked : goal.returns-in-Ok-keep-clause-checked
returns-in-Ok-keep-clause-checked g c = λ checked.
    subst (λ (xs : List Checked). All (IsChecked c.args.directory.now g.P.Program.means) xs) (sym c.in-Ok-keep.ensures.kept)
    (All-push (IsChecked c.args.directory.now g.P.Program.means) c.args.items.now.items c.in-Ok.item checked c.in-Ok.ensures.checked)
