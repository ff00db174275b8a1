use Rattle.std.proofs.Common.{◌++◌, ◌∷◌, [], take, sym, subst, arith}
use Rattle.std.specs.List.{All}
use Rattle.std.proofs.lemmas.List.{take_more, take_all}
use Rattle.std.proofs.lemmas.List.Elements.{All-map, All-push}
use Rattle.witness_core.specs.within.ValidStores.{HasValidItems}
use Rattle.witness_core.proofs.world.have_valid_items.Goals as goal

pub loop-store-preserved : goal.loop-store-preserved
loop-store-preserved g c =
    let before = take c.loop-store.store-index c.args.stores.now in
    let pushed = All-push (λ s. HasValidItems (g.S.Evidence.contents s)) before c.store-item.result c.loop-store.invariant c.directory-valid.ensures.valid in
    subst (All (λ s. HasValidItems (g.S.Evidence.contents s))) (sym (take_more c.args.stores.now c.loop-store.store-index c.store-item.result c.loop-store-test.true))
    (subst (λ s. All (λ x. HasValidItems (g.S.Evidence.contents x)) (before ++ s ∷ [])) c.store-item.is pushed)

pub returns : goal.returns
returns g c =
    All-map HasValidItems g.S.Evidence.contents c.args.stores.now
    (subst (All (λ s. HasValidItems (g.S.Evidence.contents s))) (take_all c.loop-store.store-index c.args.stores.now (omega arith)) c.loop-store.invariant)
