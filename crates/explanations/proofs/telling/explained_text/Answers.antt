use Rattle.explanations.proofs.telling.explained_text.Goals as goal

pub returns : goal.returns
returns g c = record {
  explanation = c.in_ok-explanation.explanation;
  told = c.in_ok-explanation.ensures;
  is = c.in_ok-text.ensures.exact;
  lines = c.in_ok-text.ensures.report;
}
