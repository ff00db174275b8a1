use Rattle.std.proofs.Common.{subst}
use Rattle.proofs.specs.declared.proof.Parts.{Parts}
use Rattle.explanations.specs.Leads.{TellsParts}
use Rattle.explanations.proofs.Leading.{more_parts}
use Rattle.explanations.proofs.telling.proof_sentences.Goals as goal

pub returns : goal.returns
returns g c =
    let lead = subst (λ (q : Parts). TellsParts q c.in_ok-lead.lead.items) c.parts.ensures.parts c.in_ok-lead.ensures in
    more_parts c.args.proof.now.parts c.in_ok-lead.lead.items c.in_ok-all.all.items lead c.in_ok-all.ensures
