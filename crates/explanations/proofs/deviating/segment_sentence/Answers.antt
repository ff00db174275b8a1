use Rattle.std.proofs.Common.{ap, string_bytes}
use Rattle.explanations.proofs.Leading.{begins}
use Rattle.explanations.proofs.deviating.segment_sentence.Goals as goal

pub returns : goal.returns
returns c = begins c.plain-sentence.result (string_bytes c.in_ok-text.text) (string_bytes c.in_ok-front.front) _ (ap string_bytes c.plain-sentence.ensures) (_, c.in_ok-text.ensures) c.in_ok-front.ensures
