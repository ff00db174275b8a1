use Rattle.std.proofs.Common.{◌≡◌, ◌∙◌, get_or, refl, sym, ap, subst, arith}
use Rattle.std.specs.Prelude.{IsSome, IsTrue}
use Rattle.std.proofs.lemmas.Grind.{get_or_default_zero}
use Rattle.authenticators.specs.Directory.{Listing, keys_at}
use Rattle.evidence_set.specs.Indications.{IsExposed}
use Rattle.operating.specs.Questions.{is_asked}
use Rattle.operating.proofs.Exposing.{listed_at, nobody, none_more, numbers}
use Rattle.operating.proofs.status.exposes_somebody.Goals as goal

pub exposes-requires : goal.exposes-requires
exposes-requires g c =
    let at : get_or c.nodes-node-items.result.now c.loop-node.node-index 0 ≡ c.node-item.result = sym (c.node-item.is ∙ get_or_default_zero c.nodes-node-items.result.now c.loop-node.node-index c.node-item.result c.loop-node-test.true) in
    subst (λ (ds : Listing). IsSome (keys_at ds c.node-item.result)) c.directory.ensures.kept
    (listed_at c.directory.result.now c.loop-node.node-index c.node-item.result (rw (← c.nodes-node-items.ensures.numbers) c.loop-node-test.true) (rw (← c.nodes-node-items.ensures.numbers) at))

pub returns-then-exposes : goal.returns-then-exposes
returns-then-exposes g c =
    let at : get_or c.nodes-node-items.result.now c.loop-node.node-index 0 ≡ c.node-item.result = sym (c.node-item.is ∙ get_or_default_zero c.nodes-node-items.result.now c.loop-node.node-index c.node-item.result c.loop-node-test.true) in
    let listed : IsSome (keys_at (g.S.Evidence.contents c.args.store.now).directory c.node-item.result) = subst (λ (ds : Listing). IsSome (keys_at ds c.node-item.result)) c.directory.ensures.kept
    (listed_at c.directory.result.now c.loop-node.node-index c.node-item.result (rw (← c.nodes-node-items.ensures.numbers) c.loop-node-test.true) (rw (← c.nodes-node-items.ensures.numbers) at)) in
    let told = c.exposes.ensures.0 c.if-exposes.true in
    (λ t. (c.node-item.result, listed, told.0, told.1), λ e. refl)

pub loop-node-preserved : goal.loop-node-preserved
loop-node-preserved g c =
    let s = g.S.Evidence.contents c.args.store.now in
    none_more (λ n. IsTrue (is_asked c.args.scope.now n) × IsExposed s.directory g.P.Program.means s.items n) c.nodes-node-items.result.now c.loop-node.node-index c.node-item.result c.loop-node-test.true c.node-item.is c.loop-node.invariant
    (λ h. absurd (cc (c.exposes.ensures.1 h)))

pub returns : goal.returns
returns g c =
    let s = g.S.Evidence.contents c.args.store.now in
    let none = nobody (λ n. IsTrue (is_asked c.args.scope.now n) × IsExposed s.directory g.P.Program.means s.items n) s.directory c.nodes-node-items.result.now c.loop-node.node-index (c.nodes-node-items.ensures.numbers ∙ ap (λ (ds : Listing). numbers ds) c.directory.ensures.kept) (omega arith) c.loop-node.invariant in
    (λ t. absurd cc, λ e. absurd (none e.0 e.1 (e.2, e.3)))
