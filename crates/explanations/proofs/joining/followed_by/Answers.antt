use Rattle.explanations.proofs.joining.followed_by.Goals as goal

pub returns : goal.returns
returns c = (c.into_sentences-rest.result.items, c.in_ok-append.ensures.items)
