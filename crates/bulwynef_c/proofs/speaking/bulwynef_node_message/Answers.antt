use Rattle.std.proofs.Common.{inr}
use Rattle.bulwynef_c.specs.Calls.{SendFails}
use Rattle.bulwynef_c.specs.Handles.{NodeRefuses}
use Rattle.bulwynef_c.proofs.Saying.{said}
use Rattle.bulwynef_c.proofs.speaking.bulwynef_node_message.Goals as goal

pub returns-in-Err-clause-number : goal.returns-in-Err-clause-number
returns-in-Err-clause-number c = λ closed refused. inr (said (NodeRefuses (λ S p n e. SendFails c.args.seq n e)) c.deref.result.now c.in-Some.object.value c.args.node.now.value c.in-Err.refusal c.refusal_number-in-Err.result c.in-Some.ensures.given c.deref.ensures c.refusal_number-in-Err.ensures.0 c.in-Err.ensures.refused)
