use Rattle.std.proofs.Common.{◌∙◌, ap, arith}
use Rattle.lms_sign.specs.within.OpenChains.{leads_to}
use Rattle.lms_sign.proofs.chain_ends.run_signature.Goals as goal

pub returns-clause-ends : goal.returns-clause-ends
returns-clause-ends c i d lt =
    c.run_all.ensures.values i d (omega (arith, c.open_signature.ensures.len))
    ∙ ap leads_to (c.open_signature.ensures.each i d lt)
