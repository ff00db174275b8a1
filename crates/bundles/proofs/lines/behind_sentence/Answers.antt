use Rattle.std.proofs.Common.{sym, ◌∙◌}
use Rattle.bundles.proofs.Sentences.{no_sentence, open_ends}
use Rattle.bundles.proofs.lines.behind_sentence.Goals as goal

pub returns-in_default-clause-sentence : goal.returns-in_default-clause-sentence
returns-in_default-clause-sentence c = open_ends c.args.text.now c.in_default.ensures.line

pub returns-then-not-is_sentence-clause-sentence : goal.returns-then-not-is_sentence-clause-sentence
returns-then-not-is_sentence-clause-sentence c =
    no_sentence c.args.text.now c.in-Some.line.now c.in-Some.rest.now c.in-Some.ensures.line (sym c.is_sentence.ensures ∙ c.if-not-is_sentence.true)
