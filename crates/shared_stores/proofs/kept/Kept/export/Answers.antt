use Rattle.std.proofs.Common.{refl, ◌∙◌}
use Rattle.shared_stores.proofs.Replaying.{kept_step}
use Rattle.shared_stores.proofs.kept.Kept.export.Goals as goal

pub invariant_of-self-2 : goal.invariant_of-self-2
invariant_of-self-2 g c =
    kept_step _ _ (g.S.Evidence.contents c.self.inside.store) (g.S.Evidence.contents c.self.inside.store) _ _ _ _ _ _ _ c.self.invariant c.reserve.ensures.items c.push_reserved.ensures.items c.new.ensures tt
    (c.in_ok-copy.ensures ∙ c.as_slice.ensures.value ∙ c.in_ok-text.ensures) refl
