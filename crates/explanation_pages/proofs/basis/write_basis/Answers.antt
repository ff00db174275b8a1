use Rattle.explanation_pages.proofs.Listed.{three_behind}
use Rattle.explanation_pages.proofs.basis.write_basis.Goals as goal

pub returns : goal.returns
returns c = three_behind _ _ _ _ _ _ _ c.in_ok-begin_terms.ensures c.in_ok-write_terms.ensures c.in_ok-end_terms.ensures
