use Rattle.explanations.proofs.Leading.{more_parts}
use Rattle.explanations.proofs.telling.exposed_sentences.Goals as goal

pub returns : goal.returns
returns g c = more_parts c.args.proof.now.parts c.in_ok-lead.lead.items c.in_ok-all.all.items c.in_ok-lead.ensures c.in_ok-all.ensures
