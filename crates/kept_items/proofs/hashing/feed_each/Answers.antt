use Rattle.std.proofs.Common.{◌≡◌, ◌++◌, ◌∷◌, [], ◌+◌, ◌∙◌, ap, sym, subst, take}
use Rattle.std.proofs.lemmas.List.{take_more}
use Rattle.item_digests.specs.Feeding.{Feeds}
use Rattle.kept_entries.specs.Shared.{SharedEntry}
use Rattle.kept_items.specs.within.Shared.{shared_spelling}
use Rattle.kept_items.proofs.Fed.{part_fed}
use Rattle.kept_items.proofs.hashing.feed_each.Goals as goal

pub loop-handle-preserved : goal.loop-handle-preserved
loop-handle-preserved c =
    let i = c.loop-handle.handle-index in
    let xs = c.args.handles.now in
    let x = c.handle-item.result in
    let more : take (i + 1) xs ≡ take i xs ++ x ∷ [] = take_more xs i x c.loop-handle-test.true ∙ ap (λ (y : SharedEntry). take i xs ++ y ∷ []) (sym c.handle-item.is) in
    let one = subst (λ (y : SharedEntry). Feeds c.loop-handle.hasher c.feed_shared.new.hasher (shared_spelling y)) c.get.ensures c.feed_shared.ensures in
    part_fed shared_spelling xs i x c.args.hasher.now c.loop-handle.hasher c.feed_shared.new.hasher more c.loop-handle.invariant one
