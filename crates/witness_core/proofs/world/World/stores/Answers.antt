use Rattle.std.proofs.Common.{map, subst}
use Rattle.std.specs.List.{All}
use Rattle.witness_core.specs.Soundness.{IsSound}
use Rattle.witness_core.specs.within.ValidStores.{HasValidItems}
use Rattle.witness_core.proofs.ValidItems.{sound_now}
use Rattle.witness_core.proofs.world.World.stores.Goals as goal

pub returns-clause-sound : goal.returns-clause-sound
returns-clause-sound g c =
    let w = c.self.inside in
    subst IsSound c.self.view_is
    (sound_now c.sets_are_lists.ensures c.sets_are_as_expected.ensures g.P.Program.means
    (record { stores = map g.S.Evidence.contents w.stores.items; outlines = w.outlines.items; summaries = w.summaries.items; packs = w.packs.items })
    c.self.invariant
    (subst (λ l. All HasValidItems (map g.S.Evidence.contents l)) c.deref.ensures.value c.have_valid_items.ensures))
