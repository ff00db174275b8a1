use Rattle.evidence.specs.Exports.{export_of}
use Rattle.operating.proofs.Plays.{grown}
use Rattle.operating.proofs.play.stores_of.Goals as goal

pub loop-witness-preserved : goal.loop-witness-preserved
loop-witness-preserved g c =
    grown c.loop-witness.texts.items c.push.new.self.items c.in_ok-text.text c.args.witnesses.now c.loop-witness.witness-index c.witness-item.result (λ t. t.items) (λ w. export_of (g.S.Evidence.contents w.store).items)
    c.in_ok-push.ensures.items c.loop-witness-test.true c.witness-item.is c.in_ok-text.ensures c.loop-witness.invariant
