use Rattle.std.proofs.Common.{List, subst, sym}
use Rattle.sentences.specs.declared.explanation.Sentence.{Sentence}
use Rattle.explanations.specs.Leads.{IsDeviation}
use Rattle.explanations.proofs.deviating.deviation_lead.Goals as goal

pub returns : goal.returns
returns c = subst (λ (ss : List Sentence). IsDeviation c.args.segment.now ss) (sym c.in_ok-lead.ensures) (c.in_ok-first.ensures, (c.in_ok-second.ensures, tt))
