use Rattle.std.proofs.Common.{◌≡◌, false, refl, subst}
use Rattle.std.specs.Prelude.{IsTrue, ◌↔◌}
use Rattle.authenticators.specs.Directory.{is_listed}
use Rattle.evidence_set.specs.declared.indication.Indication.{Indication}
use Rattle.evidence_set.specs.Indications.{IsExposed}
use Rattle.operating.proofs.Exposing.{is_exposed, tells_exposed}
use Rattle.operating.proofs.status.is_exposed.Goals as goal

pub unreachable-requires : goal.unreachable-requires
unreachable-requires g c =
    let told : is_listed (g.S.Evidence.contents c.args.store.now).directory c.args.node ≡ false = c.in_default.ensures.unknown.0 refl in
    cc (told, c.requires)

pub returns-in-Exposed : goal.returns-in-Exposed
returns-in-Exposed g c =
    let s = g.S.Evidence.contents c.args.store.now in
    subst (λ (i : Indication). IsTrue (is_exposed i) ↔ IsExposed s.directory g.P.Program.means s.items c.args.node) c.in-Exposed.is (tells_exposed s.directory g.P.Program.means s.items c.args.node c.in-Ok.indication c.in-Ok.ensures.told)

pub returns-in-Suspected : goal.returns-in-Suspected
returns-in-Suspected g c =
    let s = g.S.Evidence.contents c.args.store.now in
    subst (λ (i : Indication). IsTrue (is_exposed i) ↔ IsExposed s.directory g.P.Program.means s.items c.args.node) c.in-Suspected.is (tells_exposed s.directory g.P.Program.means s.items c.args.node c.in-Ok.indication c.in-Ok.ensures.told)

pub returns-in-Trusted : goal.returns-in-Trusted
returns-in-Trusted g c =
    let s = g.S.Evidence.contents c.args.store.now in
    subst (λ (i : Indication). IsTrue (is_exposed i) ↔ IsExposed s.directory g.P.Program.means s.items c.args.node) c.in-Trusted.is (tells_exposed s.directory g.P.Program.means s.items c.args.node c.in-Ok.indication c.in-Ok.ensures.told)
