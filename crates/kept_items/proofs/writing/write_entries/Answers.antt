use Rattle.std.proofs.Common.{ℕ, List, ◌++◌, length, refl, ◌∙◌, ap}
use Rattle.item_forms.proofs.Written.{two_texts}
use Rattle.kept_items.proofs.Spelled.{all_fit, counted}
use Rattle.kept_items.proofs.writing.write_entries.Goals as goal

pub write_each-requires : goal.write_each-requires
write_each-requires c = all_fit c.args.handles.now c.requires.each

pub returns : goal.returns
returns c =
    two_texts c.args.writer.now _ _ _ _ c.in_ok-u32.ensures c.in_ok-write_each.ensures
    ∙ ap (λ (t : List ℕ). c.args.writer.now ++ t) (counted c.args.handles.now (length c.args.handles.now) refl)
