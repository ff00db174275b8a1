use Rattle.std.proofs.Common.{Err, ap, inr, refl}
use Rattle.operating.proofs.Plays.{left}
use Rattle.operating.proofs.play.play_out.Goals as goal

pub returns-clause-told : goal.returns-clause-told
returns-clause-told g c =
    left g.P.Program.means c.in-Ok.outcome.directory c.args.scenario.now c.args.workers g.S.Evidence.contents (λ w. w.store) (λ w. w.history.items) (λ w. w.passes.items) c.in-Ok.outcome.witnesses.items
    c.in_ok-texts.texts c.in-Ok.ensures.directory c.in-Ok.ensures.allowed c.in-Ok.ensures.count c.in-Ok.ensures.held c.in_ok-texts.ensures.directory c.in_ok-texts.ensures.stores

pub returns-in-Err-clause-told : goal.returns-in-Err-clause-told
returns-in-Err-clause-told g c = inr (c.in-Err.fault, refl, (λ bad. c.in-Err.ensures.workers.0 (ap Err bad), λ wrong. cc (c.in-Err.ensures.workers.1 wrong)), c.in-Err.ensures.told)
