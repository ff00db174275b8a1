use Rattle.std.proofs.Common.{ap, refl, subst, is_some, IfSome}
use Rattle.proofs.specs.Convicting.{Convicts}
use Rattle.byte_calls.proofs.stores.proof.Goals as goal

pub returns-in_ok-text-in-Some-clause-some : goal.returns-in_ok-text-in-Some-clause-some
returns-in_ok-text-in-Some-clause-some g c = (λ _. c.in_ok-found_proof.ensures.some.0 (ap is_some c.in-Some.is), λ _. refl)

pub returns-in_ok-text-in-Some-clause-convicts : goal.returns-in_ok-text-in-Some-clause-convicts
returns-in_ok-text-in-Some-clause-convicts g c = (c.in-Some.proof, c.in_ok-text-in-Some.ensures, subst (λ m. IfSome m (λ q. Convicts (g.S.Evidence.contents c.args.store.now).directory g.P.Program.means c.args.node q.parts)) c.in-Some.is c.in_ok-found_proof.ensures.convicts)
