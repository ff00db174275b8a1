use Rattle.std.proofs.Common.{◌≡◌, ◌++◌, ◌∷◌, [], ◌+◌, ◌∙◌, ap, sym, take}
use Rattle.std.proofs.lemmas.List.{take_more}
use Rattle.item_forms.proofs.Written.{one_part_more}
use Rattle.kept_entries.specs.Shared.{SharedEntry}
use Rattle.kept_items.specs.within.Shared.{shared_spelling}
use Rattle.kept_items.proofs.writing.write_each.Goals as goal

pub loop-handle-preserved : goal.loop-handle-preserved
loop-handle-preserved c =
    let i = c.loop-handle.handle-index in
    let xs = c.args.handles.now in
    let x = c.handle-item.result in
    let more : take (i + 1) xs ≡ take i xs ++ x ∷ [] = take_more xs i x c.loop-handle-test.true ∙ ap (λ (y : SharedEntry). take i xs ++ y ∷ []) (sym c.handle-item.is) in
    let one = c.in_ok-write_entry.ensures ∙ ap (λ (y : SharedEntry). c.loop-handle.writer ++ shared_spelling y) c.get.ensures in
    one_part_more shared_spelling xs i x c.args.writer.now c.loop-handle.writer c.write_entry.new.writer more c.loop-handle.invariant one
