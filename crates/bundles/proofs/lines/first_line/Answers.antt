use Rattle.std.proofs.Common.{◌==◌, ◌∙◌, sym}
use Rattle.outcome.proofs.Cuts.{cut_at, uncut}
use Rattle.bundles.proofs.Sentences.{line_is}
use Rattle.bundles.proofs.lines.first_line.Goals as goal

pub returns-in-Some-clause-line : goal.returns-in-Some-clause-line
returns-in-Some-clause-line c = line_is c.args.text.now _ _ (cut_at (λ byte. byte == 10) c.args.text.now c.in-Some.end (sym c.place_of_end.ensures ∙ c.in-Some.is))

pub returns-in-None-clause-line : goal.returns-in-None-clause-line
returns-in-None-clause-line c = uncut (λ byte. byte == 10) c.args.text.now (sym c.place_of_end.ensures ∙ c.in-None.is)
