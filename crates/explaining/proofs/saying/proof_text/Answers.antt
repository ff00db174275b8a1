use Rattle.explaining.proofs.saying.proof_text.Goals as goal

pub returns : goal.returns
returns g c = (c.in_ok-conviction.conviction.node, c.in_ok-conviction.ensures.told, record { says = c.in_ok-text.ensures.says; page = c.in_ok-text.ensures.page })
