use Rattle.std.proofs.Common.{ap, string_bytes}
use Rattle.explanations.proofs.Leading.{begins}
use Rattle.explanations.proofs.deviating.place_sentence.Goals as goal

pub returns : goal.returns
returns c = begins c.in_ok-sentence.sentence (string_bytes c.in_ok-text.text) (string_bytes c.in_ok-front.front) _ (ap string_bytes c.in_ok-sentence.ensures) (_, c.in_ok-text.ensures) c.in_ok-front.ensures
