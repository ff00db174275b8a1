use Rattle.explanation_pages.specs.Shown.{heading_text}
use Rattle.explanation_pages.proofs.Listed.{of_same, two_behind}
use Rattle.explanation_pages.proofs.basis.write_front.Goals as goal

pub returns : goal.returns
returns c = two_behind _ _ _ _ _ (of_same _ _ _ _ (λ heading. heading_text heading c.args.summary.now) c.in_ok-write_heading.ensures c.heading_of.ensures) c.in_ok-write_basis.ensures
