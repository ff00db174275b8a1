use Rattle.std.proofs.Common.{codes}
use Rattle.explanation_pages.specs.Shown.{digest_text, term_text}
use Rattle.explanation_pages.proofs.Listed.{of_same, three_behind}
use Rattle.explanation_pages.proofs.basis.write_terms.Goals as goal

pub returns : goal.returns
returns c =
    three_behind _ _ _ _ _ _ _ (of_same _ _ _ _ (term_text (codes "Program")) c.in_ok-write_term.ensures c.as_str.ensures.value) c.in_ok-write_digest.ensures
    (of_same _ _ _ _ (λ name. digest_text name c.args.basis.now.evidence) c.in_ok-write_digest-2.ensures c.judged_name-name.ensures)
