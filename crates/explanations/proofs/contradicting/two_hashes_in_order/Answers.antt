use Rattle.std.proofs.Common.{List, subst, sym}
use Rattle.sentences.specs.declared.explanation.Sentence.{Sentence}
use Rattle.explanations.specs.Leads.{IsSaidTwice}
use Rattle.explanations.proofs.contradicting.two_hashes_in_order.Goals as goal

pub returns : goal.returns
returns c = subst (λ (ss : List Sentence). IsSaidTwice c.args.one.now c.args.other.now ss) (sym c.in_ok-lead.ensures) (c.in_ok-first.ensures, (c.in_ok-second.ensures, (c.in_ok-third.ensures, tt)))
