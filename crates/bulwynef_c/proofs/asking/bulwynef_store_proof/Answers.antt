use Rattle.std.proofs.Common.{inr}
use Rattle.bulwynef_c.specs.Calls.{ProofFails}
use Rattle.bulwynef_c.specs.Handles.{StoreRefuses}
use Rattle.bulwynef_c.proofs.Saying.{said}
use Rattle.bulwynef_c.proofs.asking.bulwynef_store_proof.Goals as goal

pub returns-in-Err-clause-number : goal.returns-in-Err-clause-number
returns-in-Err-clause-number c = λ closed refused. inr (said (StoreRefuses (λ S p s e. ProofFails c.args.node p s e)) c.deref.result.now c.in-Some.object.value c.args.store.now.value c.in-Err.refusal c.refusal_number-in-Err.result c.in-Some.ensures.given c.deref.ensures c.refusal_number-in-Err.ensures.0 c.in-Err.ensures.refused)
