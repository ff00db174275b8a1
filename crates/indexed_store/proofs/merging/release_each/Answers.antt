use Rattle.std.proofs.Common.{◌≡◌, ◌+◌, ◌++◌, ◌∷◌, [], List, take, sym, ap, subst, ◌∙◌}
use Rattle.std.proofs.lemmas.List.{take_all, take_more}
use Rattle.evidence_item.specs.Checking.{Checked}
use Rattle.node_tables.specs.Rooms.{AreAllReleased, IsReleased}
use Rattle.node_tables.specs.Steps.{EachBecomes}
use Rattle.node_tables.proofs.Reserved.{back_push}
use Rattle.node_tables.proofs.Stepping.{ascend_still, each_then}
use Rattle.indexed_store.proofs.Owed.{none_released}
use Rattle.indexed_store.proofs.merging.release_each.Goals as goal

pub loop-item-init : goal.loop-item-init
loop-item-init g c = (c.requires, none_released c.args.tables.now)

pub loop-item-preserved : goal.loop-item-preserved
loop-item-preserved g c =
    let x = c.item-item.result in
    let k = c.loop-item.item-index in
    let items = c.args.items.now in
    let longer : take (k + 1) items ≡ take k items ++ x ∷ [] = take_more items k x c.loop-item-test.true ∙ ap (λ (y : Checked). take k items ++ y ∷ []) (sym c.item-item.is) in (
      ascend_still (IsReleased x) c.loop-item.tables c.release_item.new.tables (λ t u step. step.roomier.node) c.release_item.ensures c.loop-item.invariant.0,
      subst (λ (l : List Checked). EachBecomes (AreAllReleased l) c.args.tables.now c.release_item.new.tables) (sym longer)
          (each_then (AreAllReleased (take k items)) (IsReleased x) (AreAllReleased (take k items ++ x ∷ [])) (back_push (take k items) x) c.args.tables.now c.loop-item.tables c.release_item.new.tables c.loop-item.invariant.1 c.release_item.ensures),
    )

pub returns : goal.returns
returns g c =
    let whole : take c.loop-item.item-index c.args.items.now ≡ c.args.items.now = take_all c.loop-item.item-index c.args.items.now c.loop-item-test.false in
    subst (λ (l : List Checked). EachBecomes (AreAllReleased l) c.args.tables.now c.loop-item.tables) whole c.loop-item.invariant.1
