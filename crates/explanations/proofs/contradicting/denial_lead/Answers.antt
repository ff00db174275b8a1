use Rattle.std.proofs.Common.{List, subst, sym}
use Rattle.sentences.specs.declared.explanation.Sentence.{Sentence}
use Rattle.explanations.specs.Leads.{IsDenied}
use Rattle.explanations.proofs.contradicting.denial_lead.Goals as goal

pub returns : goal.returns
returns c = subst (λ (ss : List Sentence). IsDenied c.args.auth.now c.args.segment.now ss) (sym c.in_ok-lead.ensures) (c.in_ok-first.ensures, (c.in_ok-second.ensures, (c.in_ok-third.ensures, tt)))
