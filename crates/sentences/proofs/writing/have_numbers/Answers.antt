use Rattle.std.proofs.Common.{◌++◌, ◌∷◌, [], ◌<◌, ◌^◌, take, sym, subst, arith}
use Rattle.std.specs.List.{All}
use Rattle.std.proofs.lemmas.List.{take_more, take_all}
use Rattle.std.proofs.lemmas.List.Elements.{All-push}
use Rattle.sentences.proofs.writing.have_numbers.Goals as goal

pub loop-node-preserved : goal.loop-node-preserved
loop-node-preserved c =
    let before = take c.loop-node.node-index c.args.nodes.now in
    let pushed = All-push (λ n. n.node < 2 ^ 32) before c.node-item.result c.loop-node.invariant c.number_of-number.ensures.fits in
    subst (All (λ n. n.node < 2 ^ 32)) (sym (take_more c.args.nodes.now c.loop-node.node-index c.node-item.result c.loop-node-test.true))
    (subst (λ n. All (λ x. x.node < 2 ^ 32) (before ++ n ∷ [])) c.node-item.is pushed)

pub returns : goal.returns
returns c = subst (All (λ n. n.node < 2 ^ 32)) (take_all c.loop-node.node-index c.args.nodes.now (omega arith)) c.loop-node.invariant
