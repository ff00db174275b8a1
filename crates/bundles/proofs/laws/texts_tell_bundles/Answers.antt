use Rattle.std.proofs.Common.{ℕ, List, sym, ap, ◌∙◌}
use Rattle.outcome.proofs.Steps.{Ok-inj}
use Rattle.bundles.specs.declared.fault.BundleFault.{BundleFault}
use Rattle.bundles.specs.Grammar.{bundle_of}
use Rattle.bundles.specs.Spelling.{Contents}
use Rattle.bundles.proofs.SpelledTexts.{spelled_is_read}
use Rattle.bundles.proofs.laws.texts_tell_bundles.Goals as goal

pub returns : goal.returns
returns c = λ a b f g h. Ok-inj {A = Contents} {E = BundleFault} a b (sym (spelled_is_read a f) ∙ ap (λ (t : List ℕ). bundle_of t) h ∙ spelled_is_read b g)
