use Rattle.std.proofs.Common.{inr}
use Rattle.bulwynef_c.specs.Calls.{RekeyFails}
use Rattle.bulwynef_c.specs.Handles.{NodeRefuses}
use Rattle.bulwynef_c.proofs.Saying.{said}
use Rattle.bulwynef_c.proofs.nodes.bulwynef_node_next_key.Goals as goal

pub returns-in-Err-answer-clause-number : goal.returns-in-Err-answer-clause-number
returns-in-Err-answer-clause-number c = λ refused. inr (c.in-Ok.key, c.in-Ok.ensures, said (NodeRefuses (λ S p n e. RekeyFails c.in-Ok.key n e)) c.deref_mut.result.now c.in-Some.object.value c.args.node.now.value c.in-Err-answer.refusal c.refusal_number-in-Err-answer.result c.in-Some.ensures.given c.deref_mut.ensures.value c.refusal_number-in-Err-answer.ensures.0 c.in-Err-answer.ensures.refused)
