use Rattle.std.proofs.Common.{◌∙◌}
use Rattle.sentences.specs.Bases.{groups}
use Rattle.explanation_pages.specs.Shown.{digits_text}
use Rattle.explanation_pages.proofs.Listed.{of_same}
use Rattle.explanation_pages.proofs.basis.write_digest.Goals as goal

pub returns : goal.returns
returns c =
    of_same _ _ _ _ (λ name. digits_text name (groups c.args.hash.now))
    (of_same _ _ _ _ (digits_text c.as_str.result.now) c.in_ok-write_digits.ensures (c.as_slice.ensures.value ∙ c.in_ok-digits.ensures))
    (c.as_str.ensures.value ∙ c.in_ok-name.ensures.ok)
