use Rattle.std.proofs.Common.{◌≡◌, ◌∷◌, ◌∙◌, [], ap, map}
use Rattle.std.proofs.lemmas.List.{map-append}
use Rattle.std.proofs.lemmas.List.Elements.{All-push}
use Rattle.evidence.specs.Contents.{Contents}
use Rattle.witness_tests.proofs.worlds.testing.make_stores.Goals as goal

pub loop-preserved : goal.loop-preserved
loop-preserved g c =
    let contents = g.S.Evidence.contents in
    rw (c.in_ok-push.ensures.items, map-append contents c.loop.stores.items (c.in_ok-store.store ∷ []))
    (All-push (λ (s : Contents). s.directory ≡ c.args.directory.now) (map contents c.loop.stores.items) (contents c.in_ok-store.store) c.loop.invariant
    (ap (λ (s : Contents). s.directory) c.in_ok-store.ensures.empty ∙ c.in_ok-try_clone.ensures))
