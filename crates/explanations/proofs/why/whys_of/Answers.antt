use Rattle.std.proofs.Common.{◌∙◌, refl, arith, take_all}
use Rattle.std.proofs.lemmas.List.Elements.{All-push}
use Rattle.explanations.specs.Whys.{IsWhy}
use Rattle.explanations.proofs.Rows.{map_self, one_more, rows_are}
use Rattle.explanations.proofs.why.whys_of.Goals as goal

pub loop-node-preserved : goal.loop-node-preserved
loop-node-preserved g c = record {
  nodes = one_more (λ row. row.node) (λ n. n) _ _ _ _ _ c.node-item.result c.in_ok-push.ensures.items c.loop-node.invariant.nodes c.loop-node-test.true refl c.node-item.is;
  right = rw c.in_ok-push.ensures.items (All-push (λ row. IsWhy (g.S.Evidence.contents c.args.store.now).directory g.P.Program.means (g.S.Evidence.contents c.args.store.now).items row.node row.why) c.loop-node.rows.items _ c.loop-node.invariant.right c.in-Ok.ensures.told);
}

pub returns : goal.returns
returns g c =
    rows_are g.P.Program.means (g.S.Evidence.contents c.args.store.now) c.directory.result.now c.loop-node.rows.items _
    (c.loop-node.invariant.nodes ∙ map_self _ ∙ take_all _ _ (omega arith) ∙ c.as_slice-node-items.ensures.value)
    c.in_ok-nodes.ensures.ascending c.in_ok-nodes.ensures.complete c.directory.ensures.kept c.loop-node.invariant.right
