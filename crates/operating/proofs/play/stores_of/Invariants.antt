use Rattle.std.proofs.Common.{◌≡◌, map, take}
use Rattle.evidence.specs.Exports.{export_of}
use Rattle.operating.proofs.play.stores_of.Given as goal

abbrev pub invariant-loop-witness : goal.invariant-loop-witness
invariant-loop-witness g l = map (λ t. t.items) l.texts.items ≡ map (λ w. export_of (g.S.Evidence.contents w.store).items) (take l.witness-index l.witnesses)
