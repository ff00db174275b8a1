use Rattle.explaining.proofs.saying.store_page.Goals as goal

pub returns : goal.returns
returns g c = record { explanation = c.in_ok-explanation.explanation; told = c.in_ok-explanation.ensures; page = c.in_ok-page.ensures }
