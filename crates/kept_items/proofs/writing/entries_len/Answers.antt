use Rattle.std.proofs.Common.{◌≡◌, ◌∙◌, length, get_or, ap, arith}
use Rattle.std.proofs.lemmas.List.Folds.{length-flat_map-take}
use Rattle.kept_entries.specs.Shared.{SharedEntry}
use Rattle.kept_items.specs.within.Shared.{shared_spelling}
use Rattle.kept_items.proofs.writing.entries_len.Goals as goal

pub overflow_add-len : goal.overflow_add-len
overflow_add-len c =
    let i = c.loop-handle.handle-index in
    let xs = c.args.handles.now in
    let x = c.handle-item.result in
    let here : length (shared_spelling c.get.result.now) ≡ length (shared_spelling (get_or xs i x)) = ap (λ (y : SharedEntry). length (shared_spelling y)) (c.get.ensures ∙ c.handle-item.is) in
    omega (arith, length-flat_map-take shared_spelling xs i x c.loop-handle-test.true, c.requires.few, c.loop-handle.invariant, c.entry_len-len.ensures, here)
