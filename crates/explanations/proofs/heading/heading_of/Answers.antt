use Rattle.std.proofs.Common.{◌∙◌, ◌++◌, List, ℕ, ap, string_bytes}
use Rattle.explanations.proofs.heading.heading_of.Goals as goal

pub returns : goal.returns
returns c = (string_bytes c.in_ok-rest.rest, c.in_ok-text.ensures ∙ ap (λ (text : List ℕ). text ++ string_bytes c.in_ok-rest.rest) c.in_ok-front.ensures)
