use Rattle.std.proofs.Common.{◌≡◌, true, refl, sym, subst}
use Rattle.authenticators.specs.Directory.{is_listed}
use Rattle.evidence_set.specs.Indications.{IsIndication}
use Rattle.shared_stores.specs.within.Journals.{Journal}
use Rattle.shared_stores.proofs.Replaying.{asked, kept_step}
use Rattle.shared_stores.proofs.kept.Kept.ask.Goals as goal

pub invariant_of-self-2 : goal.invariant_of-self-2
invariant_of-self-2 g c =
    kept_step _ _ (g.S.Evidence.contents c.self.inside.store) (g.S.Evidence.contents c.self.inside.store) _ _ _ _ _ _ _ c.self.invariant c.reserve.ensures.items c.push_reserved.ensures.items c.new.ensures
    (subst (λ (j : Journal). is_listed j.directory c.args.node ≡ true) (sym c.self.view_is) c.requires) c.in-Ok.ensures.told refl

pub returns-clause-done : goal.returns-clause-done
returns-clause-done g c = record {
  answered = subst (λ (j : Journal). IsIndication j.directory g.P.Program.means j.items c.args.node c.in-Ok.says) c.self.view_is c.in-Ok.ensures.told;
  left = asked _ _ _ _ _ _ _ _ c.self.view_is c.reserve.ensures.items c.push_reserved.ensures.items c.new.ensures;
}
