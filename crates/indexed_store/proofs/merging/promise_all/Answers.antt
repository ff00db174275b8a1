use Rattle.std.proofs.Common.{◌≡◌, ◌+◌, ◌++◌, ◌∷◌, [], List, take, sym, ap, subst, ◌∙◌}
use Rattle.std.proofs.lemmas.List.{take_all, take_more}
use Rattle.evidence_item.specs.Checking.{Checked}
use Rattle.node_tables.specs.Rooms.{AreAllReleased, AreReady, IsReady, IsRoomier}
use Rattle.node_tables.specs.Steps.{EachBecomes}
use Rattle.node_tables.proofs.Reserved.{each_so, many_none, many_push, roomier_then}
use Rattle.node_tables.proofs.Stepping.{ascend_still, each_then}
use Rattle.indexed_store.proofs.Owed.{all_back}
use Rattle.indexed_store.proofs.merging.promise_all.Goals as goal

pub loop-n-init : goal.loop-n-init
loop-n-init g c = (c.requires, λ i u there. (u, there, many_none u))

pub release_each-requires : goal.release_each-requires
release_each-requires g c = ascend_still IsRoomier c.loop-n.tables c.promise_item.new.tables (λ t u step. step.node) c.promise_item.ensures.same c.loop-n.invariant.0

pub returns-in_default-clause-same : goal.returns-in_default-clause-same
returns-in_default-clause-same g c =
    each_then IsRoomier (AreAllReleased (take c.loop-n.n c.args.more.now)) IsRoomier (λ t u v a b. roomier_then t u v a b.roomier) c.args.tables.now c.promise_item.new.tables c.release_each.new.tables
    (each_then (AreReady (take c.loop-n.n c.args.more.now)) IsRoomier IsRoomier (λ t u v a b. roomier_then t u v a.roomier b) c.args.tables.now c.loop-n.tables c.promise_item.new.tables c.loop-n.invariant.1 c.promise_item.ensures.same)
    c.release_each.ensures

pub returns-in_default-clause-refused : goal.returns-in_default-clause-refused
returns-in_default-clause-refused g c =
    all_back (take c.loop-n.n c.args.more.now) c.args.tables.now c.loop-n.tables c.promise_item.new.tables c.release_each.new.tables c.loop-n.invariant.1 c.promise_item.ensures.same c.in_default.ensures.refused c.release_each.ensures

pub loop-n-preserved : goal.loop-n-preserved
loop-n-preserved g c = (
  ascend_still IsRoomier c.loop-n.tables c.promise_item.new.tables (λ t u step. step.node) c.promise_item.ensures.same c.loop-n.invariant.0,
  (let k = c.loop-n.n in
      let more = c.args.more.now in
      let x = c.index-more-n.result in
      let longer : take (k + 1) more ≡ take k more ++ x ∷ [] = take_more more k x c.loop-n-test.true ∙ ap (λ (y : Checked). take k more ++ y ∷ []) (sym c.index-more-n.is) in
      subst (λ (l : List Checked). EachBecomes (AreReady l) c.args.tables.now c.promise_item.new.tables) (sym longer)
      (each_then (AreReady (take k more)) (IsReady x) (AreReady (take k more ++ x ∷ [])) (many_push (take k more) x) c.args.tables.now c.loop-n.tables c.promise_item.new.tables c.loop-n.invariant.1 c.in-Ok.ensures.ok)),
)

pub returns-clause-same : goal.returns-clause-same
returns-clause-same g c = each_so (AreReady (take c.loop-n.n c.args.more.now)) IsRoomier (λ t u h. h.roomier) c.args.tables.now c.loop-n.tables c.loop-n.invariant.1

pub returns-clause-ok : goal.returns-clause-ok
returns-clause-ok g c =
    let whole : take c.loop-n.n c.args.more.now ≡ c.args.more.now = take_all c.loop-n.n c.args.more.now c.loop-n-test.false in
    subst (λ (l : List Checked). EachBecomes (AreReady l) c.args.tables.now c.loop-n.tables) whole c.loop-n.invariant.1
