use Rattle.std.proofs.Common.{inr}
use Rattle.bulwynef_c.specs.Calls.{ReplyFails}
use Rattle.bulwynef_c.specs.Handles.{NodeRefuses}
use Rattle.bulwynef_c.proofs.Saying.{said}
use Rattle.bulwynef_c.proofs.speaking.bulwynef_node_answer.Goals as goal

pub returns-clause-number : goal.returns-clause-number
returns-clause-number c = λ closed refused. inr (said (NodeRefuses (λ S p n e. ReplyFails c.args.challenge.now c.args.entropy.now p n e)) c.deref_mut.result.now c.in-Some.object.value c.args.node.now.value c.in-Err.refusal c.refusal_number-in-Err.result c.in-Some.ensures.given c.deref_mut.ensures.value c.refusal_number-in-Err.ensures.0 c.in-Err.ensures.refused)
