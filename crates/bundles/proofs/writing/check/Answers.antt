use Rattle.std.proofs.Common.{◌∙◌, refl, sym}
use Rattle.std.proofs.lemmas.Bool.{true≢false}
use Rattle.bundles.proofs.WrittenTexts.{fails}
use Rattle.bundles.proofs.writing.check.Goals as goal

pub returns-then-not-is_name : goal.returns-then-not-is_name
returns-then-not-is_name c = rw (← c.bundle.view_is) (refl, λ h. true≢false (sym h.program ∙ sym c.is_name.ensures ∙ c.if-not-is_name.true))

pub returns-then-not-are_sentences : goal.returns-then-not-are_sentences
returns-then-not-are_sentences c = rw (← c.bundle.view_is) (refl, λ h. fails c.are_sentences.result c.are_sentences.ensures c.if-not-are_sentences.true h.sentences)
